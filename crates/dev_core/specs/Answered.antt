-- What a call of a device answers, and the state that it leaves.
pub record Answered (A S : Type 0) : Type 0 where
  pub answer : A
  pub after : S

-- the same of a wider type of state
abbrev pub answered_as : {A S T : Type 0} → (S → T) → Answered A S → Answered A T
answered_as wider answered = record { answer = answered.answer; after = wider answered.after }

-- an answer that leaves the state
abbrev pub unchanged : {A S : Type 0} → A → S → Answered A S
unchanged answer state = record { answer = answer; after = state }
