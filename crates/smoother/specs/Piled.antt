-- What piling two smoothers answers, and the taps of a pile.
use Rattle.std.specs.Prelude.{ℕ, ◌+◌, ◌-◌, ◌*◌, ◌^◌, Bool, cond, ◌&&◌, List, [], ◌∷◌, length, Ok, Err, Result, nat_le}
use Rattle.samples.specs.declared.refusals.Refusal.{Refusal}
use Rattle.samples.specs.declared.refusals.Refusal.TheVariants.{ScaleTooLarge, ReachTooLong}
use Rattle.scale_space.specs.Taps.{scale, conv}

abbrev pub scales_fit : List ℕ → List ℕ → Bool
scales_fit p q = nat_le (scale p * scale q) (2 ^ 40)

-- a reach is one less than the number of taps
abbrev pub reaches_fit : List ℕ → List ℕ → Bool
reaches_fit p q = nat_le ((length p - 1) + (length q - 1)) 48

-- The taps of p and then q. A pile past a limit cannot be made; it means the one tap 1, since nothing that a pile holds can
-- speak of the taps below it.
abbrev pub piled : List ℕ → List ℕ → List ℕ
piled p q = cond (scales_fit p q && reaches_fit p q) (conv p q) (1 ∷ [])

-- the pile, or the refusal
abbrev pub stacked : {P : Type 0} → List ℕ → List ℕ → P → Result P Refusal
stacked p q pile = cond (scales_fit p q) (cond (reaches_fit p q) (Ok pile) (Err ReachTooLong)) (Err ScaleTooLarge)
