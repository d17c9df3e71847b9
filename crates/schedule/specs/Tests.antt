-- What a pass has to be in order to stand, as tests. scale_space's `Proper` says the same with none.
use Rattle.std.specs.Prelude.{ℕ, Bool, true, ◌&&◌, List, [], ◌∷◌, ◌==◌, nat_le, nat_lt}
use Rattle.scale_space.specs.declared.passes.Pass.{Pass}
use Rattle.scale_space.specs.Taps.{scale}
use Rattle.scale_space.specs.Divisors.{common}
use Rattle.scale_space.specs.Passes.{weights, admitted}

-- each weight is at most 1,000
abbrev pub in_range : List ℕ → Bool
in_range [] = true
in_range (w ∷ ws) = nat_le w 1000 && in_range ws

-- in range, not all 0, in lowest terms, and admitted
unfoldable pub proper : Pass → Bool
proper p = in_range (weights p) && (nat_lt 0 (scale (weights p)) && (common (weights p) == 1 && admitted p))

abbrev pub all_proper : List Pass → Bool
all_proper [] = true
all_proper (p ∷ ps) = proper p && all_proper ps
