-- What comes of a platform that a command loads.
use Rattle.std.proofs.Common.{◌≡◌, ◌∙◌, ℕ, List, length, Result, Ok, Err, refl, sym, ap, subst}
use Rattle.lab_io.specs.Asked.{AskedNames}
use Rattle.lab_io.specs.Held.{Held}
use Rattle.lab_io.specs.Known.{grown}
use Rattle.lab_io.proofs.Asking.{asks_all}
use Rattle.sys_bus.specs.declared.plan.BoardPlan.{BoardPlan}
use Rattle.repl_files.specs.declared.load.Loaded.{Loaded}
use Rattle.repl_files.specs.declared.fault.LoadFault.{LoadFault}
use Rattle.repl_files.specs.declared.fault.LoadFault.TheVariants as load_fault
use Rattle.repl_files.specs.declared.fault.LoadFault.TheVariants.{At, TooLarge}
use Rattle.repl_files.specs.Loaded.{IsLoaded, IsStopped}
use Rattle.repl_files.specs.Loading.{Loading, load}
use Rattle.repl_build.specs.Plan.{built}
use Rattle.monitor.specs.declared.stop.Stop.{Stop}
use Rattle.monitor.specs.declared.stop.Stop.TheVariants.{Store, Quit, Line, File, Content, Unread, Memory}
use Rattle.monitor.specs.Answer.{answer_at}
use Rattle.monitor.specs.Boards.{equip, equip_loaded, load_onto, load_platform, made}
use Rattle.monitor.specs.Selected.{bare}
use Rattle.monitor.specs.State.{State, LinePlace}
use Rattle.monitor.specs.Inner.Reading.{IsPlanRead}
use Rattle.monitor.specs.Inner.Ruling.{IsCarried, IsPlan, load_stop}

-- a board is selected that has no platform
platform_is :
    (held : Held) (s : State) (place : LinePlace) (path : List ℕ) (b depth : ℕ) → bare s ≡ Ok b →
    depth ≡ length s.flow.outer → load_platform held s place path ≡ load_onto s place (load held depth path) (Ok b)
platform_is held s place path b depth is same =
    ap (load_onto s place (load held (length s.flow.outer) path)) is
    ∙ ap (λ n. load_onto s place (load held n path) (Ok b)) (sym same)

-- the files are loaded, and the entries make this plan or are refused
pub loaded_answer :
    (s : State) (place : LinePlace) (b : ℕ) (loading : Loading) (all : Loaded) (log log' : AskedNames) →
    IsLoaded loading (Ok all) log log' →
    equip_loaded s place b loading.names loading.outcome ≡ equip s b all.names.items (built all.entries.items)
loaded_answer s place b loading all log log' is =
    ap (equip_loaded s place b loading.names) is.0 ∙ ap (λ names. equip s b names (built all.entries.items)) (sym is.1)

-- they are refused
pub plan_stops :
    (s after : State) (place : LinePlace) (b : ℕ) (loading : Loading) (all : Loaded) (stop : Stop)
    (log log' : AskedNames) → IsLoaded loading (Ok all) log log' → IsPlan all (Err stop) →
    IsCarried (load_onto s place loading (Ok b)) place (Err stop) after log log'
plan_stops s after place b loading all (Store asked) log log' is plan = absurd plan
plan_stops s after place b loading all Quit log log' is plan = absurd plan
plan_stops s after place b loading all (Line cause) log log' is plan = absurd plan
plan_stops s after place b loading all (File fault) log log' is plan =
    (loaded_answer s place b loading all log log' is ∙ plan s b, is.2)
plan_stops s after place b loading all (Content cause) log log' is plan = absurd plan
plan_stops s after place b loading all Unread log log' is plan = absurd plan
plan_stops s after place b loading all Memory log log' is plan =
    asks_all loading.names log log' is.2

-- the files were loaded, and their entries make a plan or are refused
pub plan_read :
    (loading : Loading) (all : Loaded) (result : Result BoardPlan Stop) (log log' : AskedNames) →
    IsLoaded loading (Ok all) log log' → IsPlan all result → IsPlanRead loading result log log'
plan_read loading all (Ok plan) log log' is made = (all.entries.items, is.0, made, is.2)
plan_read loading all (Err stop) log log' is made = λ s after place b.
    plan_stops s after place b loading all stop log log' is made

-- they were not
pub load_stops :
    (loading : Loading) (fault : LoadFault) (log log' : AskedNames) →
    IsStopped loading fault log log' → IsPlanRead loading (Err (load_stop fault)) log log'
load_stops loading (At fault) log log' is = λ s after place b.
    (ap (equip_loaded s place b loading.names) is.0, is.1)
load_stops loading TooLarge log log' is = λ s after place b. (ap (equip_loaded s place b loading.names) is.0, is.1)
load_stops loading load_fault.Unread log log' is = λ s after place b. is
load_stops loading load_fault.Memory log log' is = λ s after place b. is

-- a platform whose files stop the command
pub platform_stops :
    (held : Held) (s after : State) (place : LinePlace) (path : List ℕ) (b depth : ℕ) (stop : Stop)
    (log log' : AskedNames) →
    bare s ≡ Ok b → depth ≡ length s.flow.outer → IsPlanRead (load held depth path) (Err stop) log log' →
    IsCarried (load_platform held s place path) place (Err stop) after log log'
platform_stops held s after place path b depth stop log log' is same read =
    subst (λ did. IsCarried did place (Err stop) after log log') (sym (platform_is held s place path b depth is same))
    (read s after place b)

-- a platform by whose plan the board is made
pub platform_goes :
    (held : Held) (s : State) (place : LinePlace) (path : List ℕ) (b depth : ℕ) (plan : BoardPlan)
    (log log' : AskedNames) →
    bare s ≡ Ok b → depth ≡ length s.flow.outer → IsPlanRead (load held depth path) (Ok plan) log log' →
    ((load_platform held s place path).answer ≡ answer_at place (Ok (made s b plan)))
    × (log' ≡ grown log (load_platform held s place path).names)
platform_goes held s place path b depth plan log log' is same (entries, joined, makes, asked) =
    rw (platform_is held s place path b depth is same) (rw (joined, makes) refl, asked)

pub load_unread : (fault : LoadFault) → load_stop fault ≡ Unread → fault ≡ load_fault.Unread
load_unread (At fault) is = cc is
load_unread TooLarge is = cc is
load_unread load_fault.Unread is = refl
load_unread load_fault.Memory is = cc is
