-- How a check answers the line that a run answers.
use Rattle.std.proofs.Common.{Result, Ok, Err, refl, sym, subst, inr}
use Rattle.lab_io.specs.Held.{Held}
use Rattle.dev_core.specs.declared.kind.Kind.TheVariants.{Uart, Can}
use Rattle.lab_state.specs.Lab.{Lab}
use Rattle.lab_state.specs.Run.{run}
use Rattle.resc_read.specs.declared.command.Command.{Command}
use Rattle.resc_read.specs.declared.command.Command.TheVariants as command
use Rattle.resc_read.specs.declared.command.LineCause.{LineCause}
use Rattle.resc_read.specs.Line.{line_of}
use Rattle.resc_vars.specs.Script.{next_of}
use Rattle.resc_vars.specs.Script as script
use Rattle.resc_vars.specs.declared.cause.ScriptCause.{ScriptCause}
use Rattle.monitor.specs.Answer.{Done, unread}
use Rattle.monitor.specs.Boards.{create, reset_board, select}
use Rattle.monitor.specs.Bodies.{run_macro}
use Rattle.monitor.specs.Command.{work, does, done_by, by_next, did}
use Rattle.monitor.specs.Hubs.{can_hub, connect, show, uart_hub}
use Rattle.monitor.specs.Memory.{read_word, write_word}
use Rattle.monitor.specs.Processor.{halted, mips, pc}
use Rattle.monitor.specs.Runs.{run_for, start}
use Rattle.monitor.specs.State.{State, LinePlace}
use Rattle.check_laws.specs.Checked.{IsCheckOf}
use Rattle.check_laws.proofs.CommandLemmas as of
use Rattle.check_laws.proofs.RunLemmas.{IsLater}
use Rattle.check_laws.proofs.SameLemmas.{DidFound, FoundBy, found_at}

unread_found : (place : LinePlace) (one two : Result Done ScriptCause) → FoundBy one two →
    DidFound (unread place one) (unread place two)
unread_found place one two found = (refl, found_at place one two found)

module _ (runs : (lab : Lab) (d : _) → IsLater lab (run lab d).lab) (held : Held) where
  work_found : (s t : State) → IsCheckOf s t → (place : LinePlace) (line : Command) →
      DidFound (does held place (work run s line)) (does held place (work run t line))
  work_found s t alike place (command.LoadPlatform path) = of.load_platform_found s t alike held place path
  work_found s t alike place (command.LoadElf path) = of.load_elf_found s t alike held place path
  work_found s t alike place (command.LoadBinary path at) = of.load_binary_found s t alike held place path at
  work_found s t alike place (command.LoadHex path) = of.load_hex_found s t alike held place path
  work_found s t alike place (command.Include path) = of.include_found s t alike held place path
  work_found s t alike place (command.Create name) =
      unread_found place (create s name) (create t name) (of.create_found s t alike name)
  work_found s t alike place (command.Select name) =
      unread_found place (select s name) (select t name) (of.select_found s t alike name)
  work_found s t alike place command.Reset =
      unread_found place (reset_board s) (reset_board t) (of.reset_found s t alike)
  work_found s t alike place (command.ReadWord at) =
      unread_found place (read_word s at) (read_word t at) (of.read_word_found s t alike at)
  work_found s t alike place (command.WriteWord at value) =
      unread_found place (write_word s at value) (write_word t at value) (of.write_word_found s t alike at value)
  work_found s t alike place (command.Pc cpu value) =
      unread_found place (pc s cpu value) (pc t cpu value) (of.pc_found s t alike cpu value)
  work_found s t alike place (command.Halted cpu value) =
      unread_found place (halted s cpu value) (halted t cpu value) (of.halted_found s t alike cpu value)
  work_found s t alike place (command.Mips cpu value) =
      unread_found place (mips s cpu value) (mips t cpu value) (of.mips_found s t alike cpu value)
  work_found s t alike place (command.Quantum length) = (refl, of.quantum_found s t alike length.0)
  work_found s t alike place (command.RunFor length) =
      unread_found place (run_for run s length.0) (run_for run t length.0)
      (of.run_for_found s t alike runs length.0)
  work_found s t alike place (command.UartHub name delay) =
      unread_found place (uart_hub s name delay.0) (uart_hub t name delay.0)
      (of.hub_found s t alike Uart name delay.0)
  work_found s t alike place (command.CanHub name delay) =
      unread_found place (can_hub s name delay.0) (can_hub t name delay.0) (of.hub_found s t alike Can name delay.0)
  work_found s t alike place (command.Connect dev hub) =
      unread_found place (connect s dev hub) (connect t dev hub) (of.connect_found s t alike dev hub)
  work_found s t alike place (command.Show dev) =
      unread_found place (show s dev) (show t dev) (of.show_found s t alike dev)
  work_found s t alike place (command.RunMacro name) =
      unread_found place (run_macro s name) (run_macro t name) (of.run_macro_found s t alike name)
  work_found s t alike place command.UsingSysbus = (refl, alike)
  work_found s t alike place command.Pause = (refl, alike)
  work_found s t alike place command.Start =
      unread_found place (start run s) (start run t) (of.start_found s t alike runs)
  work_found s t alike place (command.Save path) = (refl, (refl, refl, alike))
  work_found s t alike place (command.Load path) = (refl, (refl, refl, alike))
  work_found s t alike place command.Quit = (refl, tt)

  line_found : (s t : State) → IsCheckOf s t → (place : LinePlace) (line : Result Command LineCause) →
      DidFound (done_by run held s place line) (done_by run held t place line)
  line_found s t alike place (Ok line) = work_found s t alike place line
  line_found s t alike place (Err cause) = (refl, inr refl)

  next_found : (s t : State) → IsCheckOf s t → (next : script.Outcome) →
      DidFound (by_next run held s next) (by_next run held t next)
  next_found s t alike (script.Gives file n text flow) =
      line_found (record s { flow = flow }) (record t { flow = flow })
      (record {
        dry = alike.dry;
        flow = refl;
        selected = alike.selected;
        boards = alike.boards;
        hubs = alike.hubs;
        now = alike.now;
        until = alike.until;
      })
      (record { file = file; number = n }) (line_of text)
  next_found s t alike (script.Ends kept) = (refl, tt)
  next_found s t alike (script.Refuses file n cause kept) = (refl, inr refl)

  pub did_found : (s t : State) → IsCheckOf s t → DidFound (did run held s) (did run held t)
  unfolding did
  did_found s t alike =
      subst (λ (flow : script.State).
      DidFound (by_next run held s (next_of s.flow)) (by_next run held t (next_of flow)))
      (sym alike.flow) (next_found s t alike (next_of s.flow))
