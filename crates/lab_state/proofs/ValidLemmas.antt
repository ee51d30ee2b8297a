-- A laboratory that is not spent is one that there can be.
use Rattle.std.proofs.Common.{◌≡◌, ◌∙◌, sym, ap, subst, ℕ, ◌^◌, ◌<◌, length, get_or, Some, arith}
use Rattle.std.specs.Prelude.{IsTrue}
use Rattle.std.specs.List.{All}
use Rattle.std.specs.Option.{ForSome}
use Rattle.std.proofs.lemmas.List.{length-map}
use Rattle.std.proofs.lemmas.Option.{same_Some}
use Rattle.std.proofs.lemmas.Simd.{map-map}
use Rattle.lab_num.specs.Name.{is_name}
use Rattle.lab_num.specs.Route.{StandOnce}
use Rattle.lab_num.proofs.ListLemmas.{All-unmap}
use Rattle.dev_core.specs.declared.kind.Kind.{Kind}
use Rattle.dev_core.specs.declared.post.Post.{Post}
use Rattle.board.specs.Numbers.{Numbers}
use Rattle.board.specs.Sent.{is_of_kind}
use Rattle.board.specs.Valid.{IsBoard}
use Rattle.board.specs.View.{View}
use Rattle.time_source.specs.Tree.{Tree}
use Rattle.lab_state.specs.Board.{Board}
use Rattle.lab_state.specs.Hub.{members_of}
use Rattle.lab_state.specs.Lab.{Lab}
use Rattle.lab_state.specs.One.{view_of}
use Rattle.lab_state.specs.Pending.{IsPending}
use Rattle.lab_state.specs.Valid as valid
use Rattle.lab_state.specs.Valid.{IsLab, IsWaiting}
use Rattle.lab_state.specs.Inner.Spares.{Spares}
use Rattle.lab_state.specs.Inner.Standing.{outline, outlines, IsFromBoard, IsSound}
use Rattle.lab_state.specs.Inner.Time.{numbers_of}
use Rattle.lab_state.proofs.ListLemmas.{each_view, numbers_at}
use Rattle.lab_state.proofs.SoundLemmas.{kind-outlines}

-- a post that waits rightly and has been sent by a board
waits :
    (lab : Lab) (post : Post) → IsPending lab.hubs lab.now post →
    IsFromBoard (outlines lab.boards) (numbers_of lab.boards) post → IsWaiting lab post
waits lab post pending is = record {
  sent = pending.sent;
  due = pending.due;
  own = is.own;
  number = λ v at.
      let same = same_Some _ _ (same_Some _ _ (sym is.found ∙ numbers_at lab.boards post.key.board.0 v at)) in
      omega (arith, is.number, ap (λ (n : Numbers). n.posted) same);
  payload = λ kind at.
      subst (λ (kind : Kind). IsTrue (is_of_kind kind post.payload))
      (same_Some _ _ (sym is.device ∙ kind-outlines lab.boards post.from ∙ at)) is.payload;
}

pub can-be :
    {lab : Lab} {spares : Spares} {source : Tree} → IsSound lab spares source → lab.now ≡ source.end →
    All (λ board. ForSome board.view IsBoard) lab.boards → length lab.hubs < 2 ^ 32 →
    StandOnce (members_of lab.hubs) → IsLab lab
can-be {lab = lab} sound time are few once = record {
  board_names =
      All-unmap (λ name. IsTrue (is_name name)) (λ (board : Board). board.name) lab.boards
      (rw map-map at sound.shape.named);
  names = rw map-map at sound.shape.names;
  few_boards = omega (arith, sound.shape.few, length-map lab.boards outline);
  few_hubs = few;
  boards = stands;
  hubs = λ k d below. record {
    name = (sound.shape.formed k d below).name;
    kind = (sound.shape.formed k d below).kind;
    delay = sound.shape.delays k d below;
    members = λ n m inside.
        sym (kind-outlines lab.boards (get_or (get_or lab.hubs k d).members n m))
        ∙ sound.shape.devices k d below n m inside;
  };
  once = once;
  last = sound.times.time;
  least_quantum = sound.times.least_quantum;
  most_quantum = sound.times.most_quantum;
  rising = sound.pending.rising;
  pending = λ k d below.
      waits lab (get_or lab.pending k d) (sound.pending.each k d below) (sound.sent k d below);
}
  where
    stands : (b : ℕ) (v : View) → view_of lab b ≡ Some v → valid.IsStanding lab.now b v
    stands b v at =
        let is = sound.timed.standing b v.numbers (numbers_at lab.boards b v at) in
        record {
          board = each_view IsBoard lab.boards are b v at;
          number = is.number;
          posted = omega (arith, is.few_posts, time);
          entries = omega (arith, is.few_entries, time);
        }
