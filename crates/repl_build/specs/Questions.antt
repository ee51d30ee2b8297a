-- The eleven rules as lists of questions: each asks whether it is broken at one place of the text, an entry or an item.
use Rattle.std.specs.Prelude.{◌≡◌, ℕ, Bool, true, not, List, [], ◌∷◌, ◌++◌, map, is_none}
use Rattle.std.specs.List.{list_all, flat_map}
use Rattle.repl_read.specs.declared.entry.Entry.{Entry}
use Rattle.repl_read.specs.declared.fault.PlatCause.{PlatCause}
use Rattle.repl_read.specs.declared.fault.PlatCause.TheVariants.{Twice, Reference, Count, Line}
use Rattle.repl_read.specs.declared.fault.PlatFault.{PlatFault}
use Rattle.repl_read.specs.declared.fault.PlatFault.TheVariants.{At}
use Rattle.repl_build.specs.declared.merge.Peripheral.{Peripheral}
use Rattle.repl_build.specs.declared.rules.Rule.{Rule}
use Rattle.repl_build.specs.declared.rules.Rule.TheVariants as rule
use Rattle.repl_build.specs.Counts.{is_bare}
use Rattle.repl_build.specs.Merge.{merged}
use Rattle.repl_build.specs.Names.{repeats_name, repeats_key, lacks_type}
use Rattle.repl_build.specs.Numbers.{devices_of}
use Rattle.repl_build.specs.Plan.{each, plic_of}
use Rattle.repl_build.specs.Rules.{cause_of, breaks, item_breaks}
use Rattle.repl_build.specs.Wires.{item_wires}

pub record Question : Type 0 where
  pub cause : PlatCause
  pub file : ℕ
  pub line : ℕ
  pub is_broken : Bool

abbrev pub ask : PlatCause → ℕ → ℕ → Bool → Question
ask cause file line is_broken = record { cause = cause; file = file; line = line; is_broken = is_broken }

-- rule 1, of an entry and then of its items: a name is given a type once, and an attribute stands once in an entry
abbrev pub once_asked : List Entry → Entry → List Question
once_asked before entry =
    ask Twice entry.file entry.line (repeats_name before entry.head)
    ∷ each (λ items item. ask Twice entry.file item.line (repeats_key items item.what) ∷ []) [] entry.items

-- rule 2: further items are of a name that is given its type before
abbrev pub typed_asked : List Entry → Entry → List Question
typed_asked before entry = ask Reference entry.file entry.line (lacks_type before entry.head) ∷ []

-- rules 3 to 10, of a peripheral and then of its items
abbrev pub peripheral_asked : Rule → List Peripheral → List Peripheral → Peripheral → List Question
peripheral_asked r all before p =
    ask (cause_of r) p.file p.line (breaks r before p)
    ∷ map (λ item. ask (cause_of r) item.file item.line (item_breaks r all before p item)) p.items

abbrev pub rule_asked : Rule → List Peripheral → List Question
rule_asked r all = each (peripheral_asked r all) [] all

-- rule 11, of the items: a wire connects lines and pins that may be connected
abbrev pub wires_asked : List Peripheral → List Peripheral → Peripheral → List Question
wires_asked all before p =
    map (λ item. ask Line item.file item.line
    (is_none (item_wires (plic_of all) all p.kind (devices_of before) item.what))) p.items

-- the eleven rules
abbrev pub rules : List Entry → List Peripheral → List (List Question)
rules entries all =
    each once_asked [] entries
    ∷ each typed_asked [] entries
    ∷ rule_asked rule.Types all
    ∷ rule_asked rule.Attributes all
    ∷ rule_asked rule.Required all
    ∷ rule_asked rule.Values all
    ∷ rule_asked rule.Core all
    ∷ (rule_asked rule.Counts all ++ ask Count 0 0 (is_bare all) ∷ [])
    ∷ rule_asked rule.Apart all
    ∷ rule_asked rule.References all
    ∷ each (wires_asked all) [] all
    ∷ []

-- all questions of entries: rule by rule, and in each in the order of the text
abbrev pub questions : List Entry → List Question
questions entries = flat_map (λ asked. asked) (rules entries (merged entries))

abbrev pub is_kept : Question → Bool
is_kept question = not question.is_broken

-- the fault tells of the first question whose rule is broken: those before it are kept
pub record IsFirstBroken (asked : List Question) (fault : PlatFault) : Type 0 where
  pub before : List Question
  pub first : Question
  pub after : List Question
  pub all : asked ≡ before ++ first ∷ after
  pub kept : list_all is_kept before ≡ true
  pub broken : first.is_broken ≡ true
  pub told : fault ≡ At first.file first.line first.cause
