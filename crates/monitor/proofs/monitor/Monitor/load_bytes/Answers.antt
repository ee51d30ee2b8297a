use Rattle.std.proofs.lemmas.Result.{err_from_is_err_and}
use Rattle.monitor.specs.Images.{load_image}
use Rattle.monitor.specs.Inner.Ruling.{image_by}
use Rattle.monitor.specs.Memory.{write_bytes}
use Rattle.monitor.proofs.Loads.{image_leaves, image_told}
use Rattle.monitor.proofs.Ruled.{ruled_leaves, ruled_told}
use Rattle.monitor.proofs.monitor.Monitor.load_bytes.Goals as goal

pub returns-in_err-image-in-Image : goal.returns-in_err-image-in-Image
returns-in_err-image-in-Image g c = λ place v seen.
    let exit = err_from_is_err_and c.from_residual.result c.from_residual.ensures.1 in
    let s = c.args.self.now.state in
    let meant = image_by c.in-Image.format c.args.bytes.now in
    let stop = c.in_err-image-in-Image.field-0.0 in
    let is = c.in_err-image-in-Image.ensures in
    rw (c.in-Image.is, exit.1, exit.2) (
      image_told s s place (record { number = c.args.b.0; view = v }) meant stop is,
      image_leaves meant stop c.args.self.now is,
    )

pub returns-in_ok-image-in-Image : goal.returns-in_ok-image-in-Image
returns-in_ok-image-in-Image g c = λ place v seen.
    let old = c.args.self.now in
    let image = c.in_ok-image-in-Image.image in
    let ruling = load_image old.state (record { number = c.args.b.0; view = v }) image in
    let is = c.load_image.ensures v seen in
    rw (c.in-Image.is, c.in_ok-image-in-Image.ensures) (
      ruled_told place ruling c.load_image.result old c.load_image.new.self is,
      ruled_leaves ruling c.load_image.result old c.load_image.new.self is,
    )

pub returns-in-Bytes : goal.returns-in-Bytes
returns-in-Bytes g c = λ place v seen.
    let old = c.args.self.now in
    let ruling = write_bytes old.state (record { number = c.args.b.0; view = v }) c.in-Bytes.at c.args.bytes.now in
    let is = c.write_bytes.ensures v seen in
    rw c.in-Bytes.is (
      ruled_told place ruling c.write_bytes.result old c.write_bytes.new.self is,
      ruled_leaves ruling c.write_bytes.result old c.write_bytes.new.self is,
    )
