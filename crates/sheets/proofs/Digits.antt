-- Reading digits from the left, with a top.
use Rattle.std.proofs.Common.{◌≡◌, ℕ, ◌+◌, ◌-◌, ◌*◌, Bool, true, false, cond, ◌&&◌, List, [], ◌∷◌, Some, None, Option, sym, refl, ap, ◌∙◌, arith}
use Rattle.sheets.specs.Numbers.{digit, digits, value, capped}
use Rattle.sheets.proofs.Basics.{clash}

pub capped_value : (n : ℕ) (bs : List ℕ) → capped (value (capped n) bs) ≡ capped (value n bs)
capped_value n [] = omega arith
capped_value n (b ∷ bs) =
    sym (capped_value (capped n * 10 + (b - 48)) bs)
    ∙ ap (λ m. capped (value m bs)) once
    ∙ capped_value (n * 10 + (b - 48)) bs
  where
    once : capped (capped n * 10 + (b - 48)) ≡ capped (n * 10 + (b - 48))
    once = omega arith

-- what digits give after those of n
abbrev pub reads : ℕ → List ℕ → Option ℕ
reads n bs = cond (digits bs) (Some (capped (value n bs))) None

pub reads_more : (n m b : ℕ) (bs : List ℕ) → digit b ≡ true → m ≡ capped (n * 10 + (b - 48)) → reads n (b ∷ bs) ≡ reads m bs
reads_more n m b bs d e =
    ap (λ t. cond (t && digits bs) (Some (capped (value (n * 10 + (b - 48)) bs))) None) d
    ∙ ap (λ v. cond (digits bs) (Some v) None) (sym (capped_value (n * 10 + (b - 48)) bs))
    ∙ ap (λ k. reads k bs) (sym e)

pub reads_stop : (n b : ℕ) (bs : List ℕ) → digit b ≡ false → reads n (b ∷ bs) ≡ None
reads_stop n b bs d = ap (λ t. cond (t && digits bs) (Some (capped (value (n * 10 + (b - 48)) bs))) None) d

pub digit_some : (b d : ℕ) → Some d ≡ cond (digit b) (Some (b - 48)) None → (digit b ≡ true) × (d ≡ b - 48)
digit_some b d h = go (digit b) h
  where
    go : (t : Bool) → Some d ≡ cond t (Some (b - 48)) None → (t ≡ true) × (d ≡ b - 48)
    go true e = (refl, cc)
    go false e = clash cc

pub digit_none : (b : ℕ) → None ≡ cond (digit b) (Some (b - 48)) None → digit b ≡ false
digit_none b h = go (digit b) h
  where
    go : (t : Bool) → None ≡ cond t (Some (b - 48)) None → t ≡ false
    go true e = clash cc
    go false e = refl
