use Rattle.lab_encoding.proofs.FrameLemmas.{frame_passes}
use Rattle.lab_encoding.specs.Frames.{frame_fields, frame_form}
use Rattle.lab_encoding.proofs.frames.FrameSpelled.encode.Goals as goal

pub returns-clause-fits : goal.returns-clause-fits
unfolding frame_form frame_fields
returns-clause-fits c =
    let id = rw c.id.ensures.value at c.in_ok-encode.ensures.fits in
    let remote = rw c.is_remote.ensures at c.in_ok-encode-2.ensures.fits in
    let len = rw c.len.ensures.value at c.in_ok-encode-3.ensures.fits in
    let places = rw c.places.ensures.value at c.in_ok-encode-4.ensures.fits in
    ((id, (remote, (len, places))), frame_passes c.args.self.now c.places.ensures.valid)
