-- How a check answers each command that a run answers.
use Rattle.std.proofs.Common.{◌≡◌, ◌∷◌, ◌∙◌, ◌++◌, ◌+◌, ◌-◌, ◌≤◌, ◌^◌, ◌*◌, ◌%◌, ◌&&◌, ◌==◌, ℕ, nat_lt}
use Rattle.std.proofs.Common.{nat_le, not}
use Rattle.std.proofs.Common.{if◌then◌else◌, Bool, true, false, List, [], length, map, Option, None, Some, Result}
use Rattle.std.proofs.Common.{Ok, Err}
use Rattle.std.proofs.Common.{refl, sym, ap, inl, inr, arith, le_trans}
use Rattle.std.specs.FinMap.{get}
use Rattle.std.specs.List.{list_all, range_with_len}
use Rattle.std.specs.Option.{ok_or, option_or}
use Rattle.std.specs.Prelude.{is_none, is_some}
use Rattle.std.proofs.lemmas.Bool.Decides.{nat_tests}
use Rattle.std.proofs.lemmas.List.{map-append}
use Rattle.lab_io.specs.Held.{Held}
use Rattle.lab_io.specs.Whole.{FileText, Missing, Large, Broken, Readable, file_text}
use Rattle.lab_num.specs.Numeral.{number_of}
use Rattle.lab_num.specs.Depth.{depth_limit}
use Rattle.lab_num.specs.Route.{is_connected}
use Rattle.lab_num.specs.declared.key.Member.{Member}
use Rattle.dev_core.specs.declared.kind.Kind.{Kind}
use Rattle.elf_load.specs.declared.image.Image.{Image}
use Rattle.elf_load.specs.declared.image.Part.{Part}
use Rattle.page_ram.specs.LittleEndian.{little_endian}
use Rattle.repl_build.specs.Plan.{built}
use Rattle.repl_files.specs.Loading.{Loading, Outcome, Joined, Refused, Oversized, Absent, load}
use Rattle.repl_read.specs.declared.fault.PlatFault.{PlatFault}
use Rattle.repl_read.specs.declared.fault.PlatFault.TheVariants as plat_fault
use Rattle.rv_hart.specs.Core.{alignment}
use Rattle.sys_bus.specs.declared.plan.BoardPlan.{BoardPlan}
use Rattle.sys_bus.specs.declared.plan.NamedWhat.{NamedWhat}
use Rattle.sys_bus.specs.declared.plan.NamedWhat.TheVariants.{Cpu, Part as InPart}
use Rattle.sys_bus.specs.declared.region.RegionKind.TheVariants as region
use Rattle.sys_bus.specs.declared.region.Target.{Target}
use Rattle.sys_bus.specs.declared.region.Target.TheVariants.{Ram, Clint, Plic, Dev, Nothing}
use Rattle.sys_bus.specs.Region.{target_of}
use Rattle.board.specs.Changes.{is_memory, with_bytes, with_halted, with_pc, with_shown, with_speed, word_held}
use Rattle.board.specs.New.{new_board, reset}
use Rattle.board.specs.Space.{Space, target_at}
use Rattle.board.specs.View.{View}
use Rattle.board_space.specs.Words.{word_at}
use Rattle.lab_state.specs.Board.{Board}
use Rattle.lab_state.specs.Hub.{members_of}
use Rattle.lab_state.specs.Lab.{Lab}
use Rattle.lab_state.specs.Names.{board_named, connected_to, hub_named, is_taken, kind_named}
use Rattle.lab_state.specs.One.{changed, first_without, kind_at, with_member, with_view}
use Rattle.lab_state.specs.Run.{run, still}
use Rattle.lab_state.proofs.RunLemmas.{run_none}
use Rattle.lab_num.specs.Change.{change_at}
use Rattle.lab_num.proofs.ListLemmas.{map-change}
use Rattle.resc_vars.specs.Bodies.{enter, run_of, source_of}
use Rattle.resc_vars.specs.Script as script
use Rattle.resc_vars.specs.declared.cause.ScriptCause.{ScriptCause}
use Rattle.resc_vars.specs.declared.cause.ScriptCause.TheVariants as cause
use Rattle.monitor.specs.declared.fault.Cause.{Cause}
use Rattle.monitor.specs.Answer.{Done, leaves, reads, says}
use Rattle.monitor.specs.Bodies.{entered, include, include_text, run_macro}
use Rattle.monitor.specs.Boards.{board_name, board_of, create, create_as, equip, equip_loaded, load_onto, load_platform}
use Rattle.monitor.specs.Boards.{made, reset_board, select, with_new_board}
use Rattle.monitor.specs.Hubs.{agree, connect, hub_for, show}
use Rattle.monitor.specs.Images.{elf_image, hex_image, is_entry, holds_part, load_elf, load_hex, load_image, load_read}
use Rattle.monitor.specs.Images.{size, with_entry, with_parts}
use Rattle.monitor.specs.Memory.{is_word, load_binary, read_word, word_line, write_bytes, write_word}
use Rattle.monitor.specs.Processor.{halted, halted_on, may_go_at, mips, mips_on, pc, pc_on, speed_of}
use Rattle.monitor.specs.Refusal.{◌>>=◌, require}
use Rattle.monitor.specs.Runs.{has_run, length_of, quantum, run_for, start}
use Rattle.monitor.specs.Selected.{Equipped, bare, entry, entry_in, entry_name, hart_in, member, processor}
use Rattle.monitor.specs.Selected.{speaker}
use Rattle.monitor.specs.State.{State, LinePlace}
use Rattle.check_laws.specs.Checked.{IsCheckOf, IsFound}
use Rattle.check_laws.specs.Standing.{Equipment, Standing, equipment_of, standing}
use Rattle.check_laws.proofs.KeepLemmas.{Keeps, bytes_keep, halted_keeps, image_keeps, pc_keeps, reset_keeps}
use Rattle.check_laws.proofs.KeepLemmas.{shown_keeps, speed_keeps, stands}
use Rattle.check_laws.proofs.ListLemmas.{change_seen}
use Rattle.check_laws.proofs.RunLemmas.{IsLater}
use Rattle.check_laws.proofs.SameLemmas.{AreAlike, DidFound, FoundBy, bare_same, found_at, kind_same, length_same}
use Rattle.check_laws.proofs.SameLemmas.{loads_found, named_same, taken_same, then_equipped, then_on}
use Rattle.check_laws.proofs.SameLemmas.{then_same, there_same, without_same}

-- ---- of boards that stand alike

module _ (v w : View) (is : AreAlike v w) (b : ℕ) where
  abbrev one : Equipped
  one = record { number = b; view = v }

  abbrev two : Equipped
  two = record { number = b; view = w }

  entry_same : (word : List ℕ) → entry two word ≡ entry one word
  entry_same word = ap (λ (e : Equipment). ok_or (entry_in e.plan (entry_name word)) cause.Name) is

  processor_same : (word : List ℕ) → processor two word ≡ processor one word
  processor_same word =
      ap (λ (e : Equipment).
      ok_or (entry_in e.plan (entry_name word)) cause.Name
      >>= (λ what. ok_or (hart_in e.plan (entry_name word)) cause.Kind)) is

-- whether each of so many bytes from an address on is in a memory of a board with this equipment
abbrev holds_by : Equipment → ℕ → ℕ → Bool
holds_by e at count = list_all (λ byte. is_memory (target_of e.plan.regions byte 1)) (range_with_len at count)

abbrev holds_part_by : Equipment → Part → Bool
holds_part_by e part =
    nat_lt (size part) (2 ^ 32) && nat_le (part.at + size part) (2 ^ 32) && holds_by e part.at (size part)

some_word : (s r : Space) (at : Target) → is_some (word_at r at) ≡ is_some (word_at s at)
some_word s r (Ram part at) = refl
some_word s r (Dev dev at) = refl
some_word s r (Clint at) = refl
some_word s r (Plic at) = refl
some_word s r Nothing = refl

word_alike_by : (aligned : Bool) (v w : View) → AreAlike v w → (at : ℕ) →
    is_some (if aligned then word_at w.space (target_at w.space at 4) else None)
    ≡ is_some (if aligned then word_at v.space (target_at v.space at 4) else None)
word_alike_by true v w is at =
    ap (λ (e : Equipment). is_some (word_at w.space (target_of e.plan.regions at 4))) is
    ∙ some_word v.space w.space (target_of v.space.plan.regions at 4)
word_alike_by false v w is at = refl

fits_same : (v w : View) → AreAlike v w → (parts : List Part) (start : Option ℕ) →
    (list_all (holds_part w) parts && is_entry w start) ≡ (list_all (holds_part v) parts && is_entry v start)
fits_same v w is parts None = ap (λ (e : Equipment). list_all (holds_part_by e) parts && true) is
fits_same v w is parts (Some at) =
    ap (λ (e : Equipment). list_all (holds_part_by e) parts && (at % alignment e.plan.letters == 0)) is

may_go_same : (v w : View) → AreAlike v w → (value : Option ℕ) → may_go_at w value ≡ may_go_at v value
may_go_same v w is None = refl
may_go_same v w is (Some each) = ap (λ (e : Equipment). nat_le (each * e.harts) 1000) is

-- a test of the laboratory's time that the run passes the check passes too
time_found : (before after : Bool) (x y : Done) → (before ≡ true → after ≡ true) → IsCheckOf x.state y.state →
    FoundBy (require before cause.LabTime >>= (λ time. Ok x)) (require after cause.LabTime >>= (λ time. Ok y))
time_found true true x y passes found = found
time_found true false x y passes found = let never : false ≡ true = passes refl in absurd (cc)
time_found false after x y passes found = inl refl

no_longer : (a b : ℕ) → b ≤ a → nat_le a (10 ^ 10) ≡ true → nat_le b (10 ^ 10) ≡ true
no_longer a b less passes = grind (arith, nat_tests, less, passes)

-- ---- of a run and its check

module _ (s t : State) (alike : IsCheckOf s t) where
  board_changed : (b : ℕ) (f g : View → View) → Keeps f → Keeps g →
      IsCheckOf (record s { lab = changed s.lab b f }) (record t { lab = changed t.lab b g })
  board_changed b f g first second = record {
    dry = alike.dry;
    flow = alike.flow;
    selected = alike.selected;
    boards =
        map-change standing (with_view g) (stands g second) t.lab.boards b
        ∙ alike.boards
        ∙ sym (map-change standing (with_view f) (stands f first) s.lab.boards b);
    hubs = alike.hubs;
    now = alike.now;
    until = alike.until;
  }

  name_same : (name : Option (List ℕ)) → board_name t.lab name ≡ board_name s.lab name
  name_same None = rw (length_same s t alike) refl
  name_same (Some name) = refl

  created : (name : List ℕ) →
      IsCheckOf (record s { lab = with_new_board s.lab name; selected = Some (length s.lab.boards) })
      (record t { lab = with_new_board t.lab name; selected = Some (length t.lab.boards) })
  created name =
      let new : Board = record { name = name; view = None } in
      record {
        dry = alike.dry;
        flow = alike.flow;
        selected = ap Some (length_same s t alike);
        boards =
            map-append standing t.lab.boards (new ∷ [])
            ∙ ap (λ all. all ++ standing new ∷ []) alike.boards
            ∙ sym (map-append standing s.lab.boards (new ∷ []));
        hubs = alike.hubs;
        now = alike.now;
        until = alike.until;
      }

  create_as_found : (name : List ℕ) → FoundBy (create_as s name) (create_as t name)
  create_as_found name =
      then_same (require (not (is_taken s.lab name)) cause.Taken) (require (not (is_taken t.lab name)) cause.Taken) _ _
      (ap (λ taken. require (not taken) cause.Taken) (taken_same s t alike name))
      (λ free.
      then_same (require (not (length s.lab.boards == 16)) cause.Boards)
      (require (not (length t.lab.boards == 16)) cause.Boards) _ _
      (ap (λ n. require (not (n == 16)) cause.Boards) (length_same s t alike))
      (λ room. created name))

  pub create_found : (name : Option (List ℕ)) → FoundBy (create s name) (create t name)
  create_found name = rw (name_same name) (create_as_found (board_name s.lab name))

  pub select_found : (name : List ℕ) → FoundBy (select s name) (select t name)
  select_found name =
      let same : board_of t.lab name ≡ board_of s.lab name =
      rw (named_same s t alike name)
      (ap (λ b. option_or (board_named s.lab name) b) (there_same s t alike (number_of name))) in
      then_same (ok_or (board_of s.lab name) cause.Board) (ok_or (board_of t.lab name) cause.Board) _ _
      (ap (λ b. ok_or b cause.Board) same)
      (λ b. record {
        dry = alike.dry;
        flow = alike.flow;
        selected = refl;
        boards = alike.boards;
        hubs = alike.hubs;
        now = alike.now;
        until = alike.until;
      })

  pub reset_found : FoundBy (reset_board s) (reset_board t)
  reset_found =
      then_equipped s t alike _ _ (λ b v w is. board_changed b reset reset reset_keeps reset_keeps)

  said_word : (one two : Option ℕ) → is_some two ≡ is_some one →
      FoundBy (ok_or one cause.Address >>= (λ value. Ok (says s (word_line value))))
      (ok_or two cause.Address >>= (λ value. Ok (says t (word_line value))))
  said_word None None is = inr refl
  said_word None (Some y) is = absurd (cc)
  said_word (Some x) None is = absurd (cc)
  said_word (Some x) (Some y) is = alike

  pub read_word_found : (at : ℕ) → FoundBy (read_word s at) (read_word t at)
  read_word_found at =
      then_equipped s t alike _ _
      (λ b v w is. said_word (word_held v at) (word_held w at) (word_alike_by (at % 4 == 0) v w is at))

  pub write_word_found : (at value : ℕ) → FoundBy (write_word s at value) (write_word t at value)
  write_word_found at value =
      let bytes = little_endian 4 value in
      then_equipped s t alike _ _
      (λ b v w is.
      then_same (require (is_word v at) cause.Address) (require (is_word w at) cause.Address) _ _
      (ap (λ (e : Equipment). require (at % 4 == 0 && holds_by e at 4) cause.Address) is)
      (λ fits. board_changed b (λ v. with_bytes v at bytes) (λ v. with_bytes v at bytes) (bytes_keep at bytes)
      (bytes_keep at bytes)))

  pub load_binary_found : (held : Held) (place : LinePlace) (path : List ℕ) (at : ℕ) →
      DidFound (load_binary held s place path at) (load_binary held t place path at)
  load_binary_found held place path at =
      loads_found s t alike held place path _ _
      (λ b v w bytes is.
      let one : Equipped = record { number = b; view = v } in
      let two : Equipped = record { number = b; view = w } in
      found_at place (write_bytes s one at bytes) (write_bytes t two at bytes)
      (then_same (require (holds_by (equipment_of v) at (length bytes)) cause.Address)
      (require (holds_by (equipment_of w) at (length bytes)) cause.Address) _ _
      (ap (λ (e : Equipment). require (holds_by e at (length bytes)) cause.Address) is)
      (λ fits. board_changed b (λ v. with_bytes v at bytes) (λ v. with_bytes v at bytes) (bytes_keep at bytes)
      (bytes_keep at bytes))))

  image_found : (b : ℕ) (v w : View) → AreAlike v w → (image : Image) →
      FoundBy (load_image s (record { number = b; view = v }) image)
      (load_image t (record { number = b; view = w }) image)
  image_found b v w is image =
      let f : View → View = λ v. with_entry (with_parts v image.parts) image.entry in
      then_same (require (list_all (holds_part v) image.parts && is_entry v image.entry) cause.Address)
      (require (list_all (holds_part w) image.parts && is_entry w image.entry) cause.Address) _ _
      (ap (λ fits. require fits cause.Address) (fits_same v w is image.parts image.entry))
      (λ fits. board_changed b f f (image_keeps image.parts image.entry) (image_keeps image.parts image.entry))

  read_image_found : (place : LinePlace) (b : ℕ) (v w : View) → AreAlike v w → (image : Result Image Cause) →
      IsFound (load_read s place (record { number = b; view = v }) image)
      (load_read t place (record { number = b; view = w }) image)
  read_image_found place b v w is (Ok image) =
      found_at place (load_image s (record { number = b; view = v }) image)
      (load_image t (record { number = b; view = w }) image) (image_found b v w is image)
  read_image_found place b v w is (Err cause) = inr refl

  pub load_elf_found : (held : Held) (place : LinePlace) (path : List ℕ) →
      DidFound (load_elf held s place path) (load_elf held t place path)
  load_elf_found held place path =
      loads_found s t alike held place path _ _
      (λ b v w bytes is. read_image_found place b v w is (elf_image bytes))

  pub load_hex_found : (held : Held) (place : LinePlace) (path : List ℕ) →
      DidFound (load_hex held s place path) (load_hex held t place path)
  load_hex_found held place path =
      loads_found s t alike held place path _ _
      (λ b v w bytes is. read_image_found place b v w is (hex_image bytes))

  pc_on_found : (b : ℕ) (v w : View) → AreAlike v w → (hart : ℕ) (value : Option ℕ) →
      FoundBy (pc_on s (record { number = b; view = v }) hart value)
      (pc_on t (record { number = b; view = w }) hart value)
  pc_on_found b v w is hart None = alike
  pc_on_found b v w is hart (Some value) =
      let f : View → View = λ v. with_pc v hart value in
      then_same (require (value % alignment v.space.plan.letters == 0) cause.Address)
      (require (value % alignment w.space.plan.letters == 0) cause.Address) _ _
      (ap (λ (e : Equipment). require (value % alignment e.plan.letters == 0) cause.Address) is)
      (λ fits. board_changed b f f (pc_keeps hart value) (pc_keeps hart value))

  pub pc_found : (cpu : List ℕ) (value : Option ℕ) → FoundBy (pc s cpu value) (pc t cpu value)
  pc_found cpu value =
      then_equipped s t alike _ _
      (λ b v w is.
      then_same (processor (record { number = b; view = v }) cpu) (processor (record { number = b; view = w }) cpu) _ _
      (processor_same v w is b cpu) (λ hart. pc_on_found b v w is hart value))

  halted_on_found : (b : ℕ) (v w : View) (hart : ℕ) (value : Option Bool) →
      IsCheckOf (halted_on s (record { number = b; view = v }) hart value).state
      (halted_on t (record { number = b; view = w }) hart value).state
  halted_on_found b v w hart None = alike
  halted_on_found b v w hart (Some value) =
      let f : View → View = λ v. with_halted v hart value in
      board_changed b f f (halted_keeps hart value) (halted_keeps hart value)

  pub halted_found : (cpu : List ℕ) (value : Option Bool) → FoundBy (halted s cpu value) (halted t cpu value)
  halted_found cpu value =
      then_equipped s t alike _ _
      (λ b v w is.
      then_same (processor (record { number = b; view = v }) cpu) (processor (record { number = b; view = w }) cpu) _ _
      (processor_same v w is b cpu) (λ hart. halted_on_found b v w hart value))

  mips_on_found : (b : ℕ) (v w : View) (value : Option ℕ) →
      IsCheckOf (mips_on s (record { number = b; view = v }) value).state
      (mips_on t (record { number = b; view = w }) value).state
  mips_on_found b v w None = alike
  mips_on_found b v w (Some each) =
      board_changed b (λ u. with_speed u (speed_of v each)) (λ u. with_speed u (speed_of w each))
      (speed_keeps (speed_of v each)) (speed_keeps (speed_of w each))

  pub mips_found : (cpu : List ℕ) (value : Option ℕ) → FoundBy (mips s cpu value) (mips t cpu value)
  mips_found cpu value =
      then_equipped s t alike _ _
      (λ b v w is.
      then_same (require (may_go_at v value) cause.Arguments) (require (may_go_at w value) cause.Arguments) _ _
      (ap (λ may. require may cause.Arguments) (may_go_same v w is value))
      (λ fits.
      then_same (processor (record { number = b; view = v }) cpu) (processor (record { number = b; view = w }) cpu) _ _
      (processor_same v w is b cpu) (λ hart. mips_on_found b v w value)))

  pub quantum_found : (length : ℕ) → IsCheckOf (quantum s length).state (quantum t length).state
  quantum_found length = record {
    dry = alike.dry;
    flow = alike.flow;
    selected = alike.selected;
    boards = alike.boards;
    hubs = alike.hubs;
    now = alike.now;
    until = alike.until;
  }

  pub hub_found : (devices : Kind) (name : List ℕ) (delay : ℕ) →
      FoundBy (hub_for devices s name delay) (hub_for devices t name delay)
  hub_found devices name delay =
      then_same (require (not (is_taken s.lab name)) cause.Taken) (require (not (is_taken t.lab name)) cause.Taken) _ _
      (ap (λ taken. require (not taken) cause.Taken) (taken_same s t alike name))
      (λ free. record {
        dry = alike.dry;
        flow = alike.flow;
        selected = alike.selected;
        boards = alike.boards;
        hubs = ap (λ hubs. hubs ++ record { name = name; kind = devices; delay = delay; members = [] } ∷ []) alike.hubs;
        now = alike.now;
        until = alike.until;
      })

  speaker_same : (b : ℕ) (what : NamedWhat) → speaker t b what ≡ speaker s b what
  speaker_same b Cpu = refl
  speaker_same b (InPart (region.Ram part)) = refl
  speaker_same b (InPart region.Clint) = refl
  speaker_same b (InPart region.Plic) = refl
  speaker_same b (InPart (region.Dev dev)) = rw (kind_same s t alike (member b dev)) refl

  pub show_found : (dev : List ℕ) → FoundBy (show s dev) (show t dev)
  show_found dev =
      then_equipped s t alike _ _
      (λ b v w is.
      then_same (entry (record { number = b; view = v }) dev) (entry (record { number = b; view = w }) dev) _ _
      (entry_same v w is b dev)
      (λ what.
      then_same (speaker s b what) (speaker t b what) _ _ (speaker_same b what)
      (λ m.
      let f : View → View = λ v. with_shown v m.dev in
      board_changed b f f (shown_keeps m.dev) (shown_keeps m.dev))))

  connected_by : (n : Option ℕ) (m : Member) →
      IsCheckOf (record s { lab = connected_to s.lab n m }) (record t { lab = connected_to t.lab n m })
  connected_by None m = alike
  connected_by (Some hub) m = record {
    dry = alike.dry;
    flow = alike.flow;
    selected = alike.selected;
    boards = alike.boards;
    hubs = ap (λ hubs. change_at hubs hub (with_member m)) alike.hubs;
    now = alike.now;
    until = alike.until;
  }

  hub_same : (hub : List ℕ) → hub_named t.lab hub ≡ hub_named s.lab hub
  hub_same hub = rw alike.hubs refl

  agree_same : (hub : List ℕ) (m : Member) →
      agree (kind_named t.lab hub) (kind_at t.lab.boards m) ≡ agree (kind_named s.lab hub) (kind_at s.lab.boards m)
  agree_same hub m = rw (alike.hubs, kind_same s t alike m) refl

  connected_found : (hub : List ℕ) (m : Member) →
      IsCheckOf (record s { lab = connected_to s.lab (hub_named s.lab hub) m })
      (record t { lab = connected_to t.lab (hub_named t.lab hub) m })
  connected_found hub m = rw (hub_same hub) (connected_by (hub_named s.lab hub) m)

  joins_found : (hub : List ℕ) (m : Member) →
      FoundBy
      (require (agree (kind_named s.lab hub) (kind_at s.lab.boards m)) cause.Kind
      >>= (λ same. require (not (is_connected (members_of s.lab.hubs) m)) cause.Connected
      >>= (λ free. Ok (leaves (record s { lab = connected_to s.lab (hub_named s.lab hub) m })))))
      (require (agree (kind_named t.lab hub) (kind_at t.lab.boards m)) cause.Kind
      >>= (λ same. require (not (is_connected (members_of t.lab.hubs) m)) cause.Connected
      >>= (λ free. Ok (leaves (record t { lab = connected_to t.lab (hub_named t.lab hub) m })))))
  joins_found hub m =
      then_same (require (agree (kind_named s.lab hub) (kind_at s.lab.boards m)) cause.Kind)
      (require (agree (kind_named t.lab hub) (kind_at t.lab.boards m)) cause.Kind) _ _
      (ap (λ same. require same cause.Kind) (agree_same hub m))
      (λ same.
      then_same (require (not (is_connected (members_of s.lab.hubs) m)) cause.Connected)
      (require (not (is_connected (members_of t.lab.hubs) m)) cause.Connected) _ _
      (ap (λ hubs. require (not (is_connected (members_of hubs) m)) cause.Connected) alike.hubs)
      (λ free. connected_found hub m))

  pub connect_found : (dev hub : List ℕ) → FoundBy (connect s dev hub) (connect t dev hub)
  connect_found dev hub =
      then_equipped s t alike _ _
      (λ b v w is.
      then_same (entry (record { number = b; view = v }) dev) (entry (record { number = b; view = w }) dev) _ _
      (entry_same v w is b dev)
      (λ what.
      then_same (require (is_some (hub_named s.lab hub)) cause.Name)
      (require (is_some (hub_named t.lab hub)) cause.Name) _ _
      (ap (λ n. require (is_some n) cause.Name) (hub_same hub))
      (λ there.
      then_same (speaker s b what) (speaker t b what) _ _ (speaker_same b what) (λ m. joins_found hub m))))

  entered_found : (flow : Result script.State ScriptCause) → FoundBy (entered s flow) (entered t flow)
  entered_found flow =
      then_on flow _ _
      (λ after. record {
        dry = alike.dry;
        flow = refl;
        selected = alike.selected;
        boards = alike.boards;
        hubs = alike.hubs;
        now = alike.now;
        until = alike.until;
      })

  pub run_macro_found : (name : List ℕ) → FoundBy (run_macro s name) (run_macro t name)
  run_macro_found name = rw alike.flow (entered_found (run_of s.flow name))

  text_found : (place : LinePlace) (path : List ℕ) (text : FileText) →
      IsFound (include_text s place path text) (include_text t place path text)
  text_found place path Missing = tt
  text_found place path Large = inr refl
  text_found place path (Broken line) = inr refl
  text_found place path (Readable bytes) =
      rw alike.flow
      (found_at place (entered s (enter s.flow (source_of path bytes)))
      (entered t (enter s.flow (source_of path bytes)))
      (entered_found (enter s.flow (source_of path bytes))))

  include_by : (held : Held) (place : LinePlace) (path : List ℕ) (before : Result (Unit {0}) ScriptCause) →
      DidFound (reads place path before (λ _. include_text s place path (file_text (get held path))))
      (reads place path before (λ _. include_text t place path (file_text (get held path))))
  include_by held place path (Ok done) = (refl, text_found place path (file_text (get held path)))
  include_by held place path (Err cause) = (refl, inr refl)

  pub include_found : (held : Held) (place : LinePlace) (path : List ℕ) →
      DidFound (include held s place path) (include held t place path)
  include_found held place path =
      let same : nat_lt (length t.flow.outer) depth_limit ≡ nat_lt (length s.flow.outer) depth_limit =
      ap (λ (flow : script.State). nat_lt (length flow.outer) depth_limit) alike.flow in
      rw same (include_by held place path (require (nat_lt (length s.flow.outer) depth_limit) cause.Depth))

  made_found : (b : ℕ) (plan : BoardPlan) → IsCheckOf (made s b plan).state (made t b plan).state
  made_found b plan =
      let f : Board → Board = λ board. record board { view = Some (new_board b plan) } in
      let g : Standing → Standing = λ stood. record stood { equipment = Some (equipment_of (new_board b plan)) } in
      let seen : (boards : List Board) → map standing (change_at boards b f) ≡ change_at (map standing boards) b g =
      λ boards. change_seen standing f g (λ board. refl) boards b in
      record {
        dry = alike.dry;
        flow = alike.flow;
        selected = alike.selected;
        boards = seen t.lab.boards ∙ ap (λ all. change_at all b g) alike.boards ∙ sym (seen s.lab.boards);
        hubs = alike.hubs;
        now = alike.now;
        until = alike.until;
      }

  equip_found : (b : ℕ) (names : List (List ℕ)) (plan : Result BoardPlan PlatFault) →
      IsFound (equip s b names plan) (equip t b names plan)
  equip_found b names (Ok plan) = made_found b plan
  equip_found b names (Err (plat_fault.At file line cause)) = inr refl
  equip_found b names (Err plat_fault.Memory) = tt

  loaded_found : (place : LinePlace) (b : ℕ) (names : List (List ℕ)) (outcome : Outcome) →
      IsFound (equip_loaded s place b names outcome) (equip_loaded t place b names outcome)
  loaded_found place b names (Joined entries) = equip_found b names (built entries)
  loaded_found place b names (Refused fault) = inr refl
  loaded_found place b names Oversized = inr refl
  loaded_found place b names Absent = tt

  onto_found : (place : LinePlace) (loading : Loading) (before : Result ℕ ScriptCause) →
      DidFound (load_onto s place loading before) (load_onto t place loading before)
  onto_found place loading (Ok b) = (refl, loaded_found place b loading.names loading.outcome)
  onto_found place loading (Err cause) = (refl, inr refl)

  pub load_platform_found : (held : Held) (place : LinePlace) (path : List ℕ) →
      DidFound (load_platform held s place path) (load_platform held t place path)
  load_platform_found held place path =
      let deep : length t.flow.outer ≡ length s.flow.outer =
      ap (λ (flow : script.State). length flow.outer) alike.flow in
      rw (deep, bare_same s t alike)
      (onto_found place (load held (length s.flow.outer) path) (bare s))

  -- what a run does and the check's, which has length 0
  module _ (runs : (lab : Lab) (d : ℕ) → IsLater lab (run lab d).lab) where
    stays : (length : ℕ) → run t.lab (length_of t length) ≡ still t.lab
    stays length = rw (alike.dry, run_none t.lab) refl

    ran : (d : ℕ) → IsCheckOf (has_run s (run s.lab d)).state (has_run t (still t.lab)).state
    ran d =
        let later = runs s.lab d in
        record {
          dry = alike.dry;
          flow = alike.flow;
          selected = alike.selected;
          boards = alike.boards ∙ sym later.boards;
          hubs = alike.hubs ∙ sym later.hubs;
          now = le_trans alike.now later.now;
          until = alike.until;
        }

    run_found : (length other : ℕ) → t.lab.now + other ≤ s.lab.now + length →
        FoundBy (run_for run s length) (run_for run t other)
    run_found length other no_more =
        rw (stays other)
        (then_same (require (is_none (first_without s.lab.boards)) cause.Platform)
        (require (is_none (first_without t.lab.boards)) cause.Platform) _ _
        (ap (λ first. require (is_none first) cause.Platform) (without_same s t alike))
        (λ plans.
        time_found (nat_le (s.lab.now + length) (10 ^ 10)) (nat_le (t.lab.now + other) (10 ^ 10)) _ _
        (no_longer (s.lab.now + length) (t.lab.now + other) no_more) (ran (length_of s length))))

    pub run_for_found : (length : ℕ) → FoundBy (run_for run s length) (run_for run t length)
    run_for_found length = run_found length length (omega (arith, alike.now))

    pub start_found : FoundBy (start run s) (start run t)
    start_found =
        run_found (s.until - s.lab.now) (t.until - t.lab.now) (grind (arith, alike.now, alike.until))
