use Rattle.std.proofs.Common.{◌≡◌, ◌-◌, ◌≤◌, false}
use Rattle.lab_state.specs.Run.{run}
use Rattle.lab_top.specs.Transcript.{from, commands_of}
use Rattle.lab_top.specs.Inner.Course.{GoesOn}
use Rattle.lab_top.specs.Inner.Lent.{ForHeld, OnlyUses, told_of}
use Rattle.lab_top.proofs.run.take_commands.Given as goal

-- The course of what is left of the run is the course of the whole. Each turn takes a command or more.
abbrev pub invariant-commands : goal.invariant-commands
invariant-commands g l = record {
  course : ForHeld g.F.Files g.S.Store l.fn.outside (λ held kept.
      GoesOn (commands_of run held kept l.fn.monitor.state) kept
      (told_of g.F.Files g.K.Sink g.S.Store l.fn.outside) (told_of g.F.Files g.K.Sink g.S.Store l.outside)
      (λ now. from (100001 - l._turn) run held now l.monitor.state));
  goes_on : l.monitor.ended ≡ false;
  counted : l._turn ≤ l.monitor.state.flow.kept.taken;
  few : l.monitor.state.flow.kept.taken ≤ 100000;
  outside : OnlyUses g.F.Files g.K.Sink g.S.Store (λ status. ⊥) l.fn.outside l.outside;
}
