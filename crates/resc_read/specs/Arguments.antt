-- The arguments of a command: how many words there are, and of which sorts. A wrong number of words is told before the
-- sort of a word, and every other fault before that of a time.
use Rattle.std.specs.Prelude.{ℕ, ◌^◌, nat_le, Bool, ◌&&◌, if◌then◌else◌, List, [], ◌∷◌, Option, Some, None, Result, Ok}
use Rattle.std.specs.Prelude.{Err, unwrap_or}
use Rattle.std.specs.Option.{ok_or}
use Rattle.lab_num.specs.declared.number.Micros.{Micros}
use Rattle.lab_num.specs.declared.time.TimeFault.{TimeFault}
use Rattle.lab_num.specs.Numeral.{number_of}
use Rattle.lab_num.specs.Time.{time_of}
use Rattle.resc_read.specs.declared.command.Command.{Command}
use Rattle.resc_read.specs.declared.command.LineCause.{LineCause}
use Rattle.resc_read.specs.declared.command.LineCause.TheVariants.{Arguments, Time}
use Rattle.resc_read.specs.Sorts.{text_of, path_of, name_of, truth_of}
use Rattle.resc_read.specs.Variable.{variable_of}

-- a step of a `do` block: the first fault is the fault of all
infixl 10 ◌>>=◌
abbrev pub ◌>>=◌ : {A B : Type 0} → Result A LineCause → (A → Result B LineCause) → Result B LineCause
(Ok x) >>= f = f x
(Err fault) >>= f = Err fault

-- the value in a result
abbrev pub map_ok : {A B : Type 0} → (A → B) → Result A LineCause → Result B LineCause
map_ok f (Ok x) = Ok (f x)
map_ok f (Err fault) = Err fault

-- a board or a hub
abbrev pub name : List ℕ → Result (List ℕ) LineCause
name word = ok_or (name_of word) Arguments

-- a device or a processor, whatever its name
abbrev pub entry : List ℕ → Result (List ℕ) LineCause
entry word = ok_or (text_of word) Arguments

-- a file
abbrev pub path : List ℕ → Result (List ℕ) LineCause
path word = ok_or (path_of word) Arguments

-- a macro, as `$name`
abbrev pub variable : List ℕ → Result (List ℕ) LineCause
variable word = ok_or (variable_of word) Arguments

abbrev pub number : List ℕ → Result ℕ LineCause
number word = ok_or (number_of word) Arguments

abbrev pub truth : List ℕ → Result Bool LineCause
truth word = ok_or (truth_of word) Arguments

-- a processor's speed, in instructions a microsecond
abbrev pub speed : List ℕ → Result ℕ LineCause
speed word = do
  n ← number word
  if nat_le 1 n && nat_le n 1000 then Ok n else Err Arguments

-- a time, with or without quotes
abbrev pub time : List ℕ → Result Micros LineCause
time word = do
  text ← entry word
  timed (time_of text)
  where
    timed : Result Micros TimeFault → Result Micros LineCause
    timed (Ok length) = Ok length
    timed (Err fault) = Err Time

-- a quantum: a time of at least a microsecond and at most a second
abbrev pub quantum : List ℕ → Result Micros LineCause
quantum word = do
  length ← time word
  if nat_le 1 length.0 && nat_le length.0 (10 ^ 6) then Ok length else Err Time

-- how long a hub holds back what is sent: a time of at most a second
abbrev pub delay : List ℕ → Result Micros LineCause
delay word = do
  length ← time word
  if nat_le length.0 (10 ^ 6) then Ok length else Err Time

-- no word
abbrev pub no_word : List (List ℕ) → Result (Unit {0}) LineCause
no_word [] = Ok tt
no_word others = Err Arguments

-- one word
abbrev pub one_word : List (List ℕ) → Result (List ℕ) LineCause
one_word (word ∷ []) = Ok word
one_word others = Err Arguments

-- two words
abbrev pub two_words : List (List ℕ) → Result (List ℕ × List ℕ) LineCause
two_words (first ∷ second ∷ []) = Ok (first, second)
two_words others = Err Arguments

-- what the one word says, or nothing where there is none
abbrev pub at_most_one : {A : Type 0} → (List ℕ → Result A LineCause) → List (List ℕ) → Result (Option A) LineCause
at_most_one sort [] = Ok None
at_most_one sort (word ∷ []) = do
  x ← sort word
  Ok (Some x)
at_most_one sort others = Err Arguments

-- a command without arguments
abbrev pub none : Command → List (List ℕ) → Result Command LineCause
none command words = do
  _ ← no_word words
  Ok command

-- a command of one argument
abbrev pub one : {A : Type 0} → (List ℕ → Result A LineCause) → (A → Command) → List (List ℕ) → Result Command LineCause
one sort make words = do
  word ← one_word words
  x ← sort word
  Ok (make x)

-- a command of one argument or none
abbrev pub optional :
    {A : Type 0} → (List ℕ → Result A LineCause) → (Option A → Command) → List (List ℕ) → Result Command LineCause
optional sort make words = do
  x ← at_most_one sort words
  Ok (make x)

-- a command of two arguments
abbrev pub two :
    {A B : Type 0} → (List ℕ → Result A LineCause) → (List ℕ → Result B LineCause) → (A → B → Command) →
    List (List ℕ) → Result Command LineCause
two sort other make words = do
  both ← two_words words
  x ← sort both.0
  y ← other both.1
  Ok (make x y)

-- a command to a processor, with one more argument or none
abbrev pub processor :
    {A : Type 0} → (List ℕ → Result A LineCause) → (List ℕ → Option A → Command) →
    List ℕ → List (List ℕ) → Result Command LineCause
processor sort make cpu words = do
  name ← entry cpu
  x ← at_most_one sort words
  Ok (make name x)

-- a hub's name, and its delay, which is 0 where no word says it
abbrev pub name_and_delay : List (List ℕ) → Result (List ℕ × Micros) LineCause
name_and_delay [] = Err Arguments
name_and_delay (word ∷ others) = do
  x ← name word
  length ← at_most_one delay others
  Ok (x, unwrap_or length (record { 0 = 0 }))

-- a command of a hub
abbrev pub hub : (List ℕ → Micros → Command) → List (List ℕ) → Result Command LineCause
hub make words = do
  both ← name_and_delay words
  Ok (make both.0 both.1)
