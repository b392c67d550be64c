-- Any two outcomes that a promise allows are equal: said once, of any promise, with the proof for each form that promises have here.
-- A promise speaks of the lifetimes κ, the arguments a, the answer x and the parameters at exit s: a function's `Reads.Learnt` does. Assumes nothing.
use mathlib.Core.Path.{◌≡◌, sym, ◌∙◌}

-- the promise decides the answer
pub record Decided {K : Type 0} {A R S : K → Type 0} (promise : (κ : K) → A κ → R κ → S κ → Type 0) : Type 0 where
  pub decided : (κ : K) (a : A κ) (x y : R κ) (s t : S κ) → promise κ a x s → promise κ a y t → x ≡ y

-- the promise decides the answer and what is lent, which is read off the parameters at exit
pub record DecidedLent {K : Type 0} {A R S L : K → Type 0} (promise : (κ : K) → A κ → R κ → S κ → Type 0) (lent : (κ : K) → S κ → L κ) : Type 0 where
  pub decided : (κ : K) (a : A κ) (x y : R κ) (s t : S κ) → promise κ a x s → promise κ a y t → (x ≡ y) × (lent κ s ≡ lent κ t)

-- the promise decides the answer, where the arguments are as said: a closure computes a function
pub record DecidedWhere {K : Type 0} {A R S : K → Type 0} (known : (κ : K) → A κ → Type 0) (promise : (κ : K) → A κ → R κ → S κ → Type 0) : Type 0 where
  pub decided : (κ : K) (a : A κ) (x y : R κ) (s t : S κ) → known κ a → promise κ a x s → promise κ a y t → x ≡ y

-- ---- the forms of a promise

-- a value: the answer is the definition's
pub value : {K : Type 0} {A R S : K → Type 0} {promised : (κ : K) → A κ → R κ} → Decided {S = S} (λ κ a x s. x ≡ promised κ a)
value = record { decided = λ κ a x y s t p q. p ∙ sym q }

-- a value, for each function that a closure computes
pub computed : {K G : Type 0} {A R S : K → Type 0} {computes : (κ : K) → A κ → G → Type 0} {promised : (κ : K) → A κ → G → R κ}
    → DecidedWhere {S = S} (λ κ a. (f : G) × computes κ a f) (λ κ a x s. (f : G) → computes κ a f → x ≡ promised κ a f)
computed = record { decided = λ κ a x y s t c p q. p c.0 c.1 ∙ sym (q c.0 c.1) }

-- an enum through its meaning, where answers that mean the same are the same (Answers.antt here and in the crates above)
pub meaning : {K : Type 0} {A S : K → Type 0} {R B : Type 0} {means : R → B} {promised : (κ : K) → A κ → B}
    → ((x y : R) → means x ≡ means y → x ≡ y) → Decided {S = S} (λ κ a x s. means x ≡ promised κ a)
meaning one = record { decided = λ κ a x y s t p q. one x y (p ∙ sym q) }

-- the same, with what is lent
pub meaning_lent : {K : Type 0} {A S L : K → Type 0} {R B : Type 0} {means : R → B} {promised : (κ : K) → A κ → B} {lent : (κ : K) → S κ → L κ} {left : (κ : K) → A κ → L κ}
    → ((x y : R) → means x ≡ means y → x ≡ y) → DecidedLent (λ κ a x s. (means x ≡ promised κ a) × (lent κ s ≡ left κ a)) lent
meaning_lent one = record { decided = λ κ a x y s t p q. (one x y (p.0 ∙ sym q.0), p.1 ∙ sym q.1) }
