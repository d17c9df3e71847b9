-- The turns of a list are those that TurnsAt describes.
use Rattle.std.proofs.Common.{◌≡◌, ℕ, suc, ◌+◌, ◌-◌, ◌<◌, ◌≤◌, ◌⊎◌, List, [], ◌∷◌, length, get_or, ℤ, ◌<ℤ◌, sym, refl, ap, ◌∙◌, subst, subst₂, inl, inr, arith}
use mathlib.Core.List.Memᴰ
use mathlib.Core.List.{Memᴰ}
use lib.IntN.{+ℤ_invr}
use lib.Signed.{<ℤ_irrefl}
use Rattle.std.proofs.lemmas.Bool.{cases_lt}
use Rattle.scale_space.specs.Signs.{Sign, below, level, above, sign, side, keep}
use Rattle.scale_space.specs.declared.turns.Turn.{Turn}
use Rattle.scale_space.specs.declared.turns.TurnKind.{TurnKind}
use Rattle.scale_space.specs.declared.turns.TurnKind.TheVariants.{Ridge, Hollow}
use Rattle.scale_space.specs.Turns.{Spot, spot, flats_after, flats, turning, turns_of, turns}
use Rattle.scale_space.specs.Places.{Beside, TurnsAt, TurnsAreThese}
use Rattle.scale_space.proofs.Sides.{level_same, side_over, side_under, over_side, under_side}

-- g as a turn of the kind k
abbrev as_turn : TurnKind → Spot → Turn
as_turn k g = record { kind = k; place = g.place; numerator = g.value }

data New (s t : Sign) (g : Spot) (u : Turn) : Type 0 where
  up : s ≡ above → t ≡ above → u ≡ as_turn Ridge g → New s t g u
  down : s ≡ below → t ≡ below → u ≡ as_turn Hollow g → New s t g u

new_or_old : (s t : Sign) (g : Spot) (ts : List Turn) (u : Turn) → Memᴰ u (turning s t g ts) → New s t g u ⊎ Memᴰ u ts
new_or_old below below g ts u m = go (Memᴰ.cases_cons m)
  where
    go : (u ≡ as_turn Hollow g) ⊎ Memᴰ u ts → New below below g u ⊎ Memᴰ u ts
    go (inl e) = inl (down refl refl e)
    go (inr d) = inr d
new_or_old below level g ts u m = inr m
new_or_old below above g ts u m = inr m
new_or_old level t g ts u m = inr m
new_or_old above below g ts u m = inr m
new_or_old above level g ts u m = inr m
new_or_old above above g ts u m = go (Memᴰ.cases_cons m)
  where
    go : (u ≡ as_turn Ridge g) ⊎ Memᴰ u ts → New above above g u ⊎ Memᴰ u ts
    go (inl e) = inl (up refl refl e)
    go (inr d) = inr d

old : (s t : Sign) (g : Spot) (ts : List Turn) (u : Turn) → Memᴰ u ts → Memᴰ u (turning s t g ts)
old below below g ts u m = Memᴰ.tail m
old below level g ts u m = m
old below above g ts u m = m
old level t g ts u m = m
old above below g ts u m = m
old above level g ts u m = m
old above above g ts u m = Memᴰ.tail m

older : (f : Spot) (l : List Spot) (u : Turn) → Memᴰ u (turns_of l) → Memᴰ u (turns_of (f ∷ l))
unfolding turns_of
older f [] u m = m
older f (g ∷ []) u m = m
older f (g ∷ h ∷ l) u m = old (side g.value f.value) (side g.value h.value) g (turns_of (g ∷ h ∷ l)) u m

-- a walk along ys: xs is what is left at the place n
record Left (ys : List ℤ) (n : ℕ) (xs : List ℤ) : Type 0 where
  len : length ys ≡ n + length xs
  reads : (k : ℕ) (d : ℤ) → get_or ys (n + k) d ≡ get_or xs k d

-- g began at its place, and goes on up to n with the value v
record On (ys : List ℤ) (g : Spot) (v : ℤ) (n : ℕ) : Type 0 where
  begun : g.place < n
  val : g.value ≡ v
  held : (m : ℕ) (d : ℤ) → g.place ≤ m → m < n → get_or ys m d ≡ v

-- f is the flat before g
record After (ys : List ℤ) (f g : Spot) : Type 0 where
  some : 0 < g.place
  prior : (d : ℤ) → get_or ys (g.place - 1) d ≡ f.value

module _ (ys : List ℤ) where
  left_next : (n : ℕ) (x : ℤ) (xs : List ℤ) → Left ys n (x ∷ xs) → Left ys (suc n) xs
  left_next n x xs l = record { len = omega (arith, l.len); reads = λ k d. ap (λ m. get_or ys m d) (omega arith) ∙ l.reads (suc k) d }

  left_head : (n : ℕ) (x : ℤ) (xs : List ℤ) → Left ys n (x ∷ xs) → (d : ℤ) → get_or ys n d ≡ x
  left_head n x xs l d = ap (λ m. get_or ys m d) (omega arith) ∙ l.reads 0 d

  on_more : (g : Spot) (v : ℤ) (n : ℕ) (x : ℤ) (xs : List ℤ) → Left ys n (x ∷ xs) → On ys g v n → x ≡ v → On ys g x (suc n)
  on_more g v n x xs l o e = record { begun = omega (arith, o.begun); val = o.val ∙ sym e; held = λ m d a b. go m d a b (cases_lt m n) }
    where
      go : (m : ℕ) (d : ℤ) → g.place ≤ m → m < suc n → (m < n) ⊎ (n ≤ m) → get_or ys m d ≡ x
      go m d a b (inl c) = o.held m d a c ∙ sym e
      go m d a b (inr c) = ap (λ k. get_or ys k d) (omega arith) ∙ left_head n x xs l d

  on_new : (n : ℕ) (x : ℤ) (xs : List ℤ) → Left ys n (x ∷ xs) → On ys (spot n x) x (suc n)
  on_new n x xs l = record { begun = omega arith; val = refl; held = λ m d a b. ap (λ k. get_or ys k d) (omega arith) ∙ left_head n x xs l d }

  after_new : (g : Spot) (v : ℤ) (n : ℕ) (x : ℤ) → On ys g v n → After ys g (spot n x)
  after_new g v n x o = let b = o.begun in record { some = omega arith; prior = λ d. o.held (n - 1) d (omega arith) (omega arith) ∙ sym o.val }

  -- ---- a turn in the list turns
  Found : Turn → Type 0
  Found u = (j : ℕ) × TurnsAt ys u.kind u.place j u.numerator

  found : (k : TurnKind) (f g : Spot) (v : ℤ) (n : ℕ) (x : ℤ) (xs : List ℤ) → Left ys n (x ∷ xs) → On ys g v n → After ys f g → Beside k f.value g.value → Beside k x g.value → TurnsAt ys k g.place (n - 1) g.value
  found k f g v n x xs l o a p q =
      let b = o.begun in
      record {
        some = a.some;
        upto = omega arith;
        inside = omega (arith, l.len);
        flat = λ m c d. o.held m g.value c (omega arith) ∙ sym o.val;
        before = subst (λ z. Beside k z g.value) (sym (a.prior g.value)) p;
        after = subst (λ z. Beside k z g.value) (sym (ap (λ m. get_or ys m g.value) (omega arith) ∙ left_head n x xs l g.value)) q;
      }

  new_found : (f g : Spot) (v : ℤ) (n : ℕ) (x : ℤ) (xs : List ℤ) (u : Turn) → Left ys n (x ∷ xs) → On ys g v n → After ys f g → New (side g.value f.value) (side g.value x) g u → Found u
  unfolding Found
  new_found f g v n x xs u l o a (up s t e) = subst (λ w. (j : ℕ) × TurnsAt ys w.kind w.place j w.numerator) (sym e) (n - 1, found Ridge f g v n x xs l o a (side_over g.value f.value s) (side_over g.value x t))
  new_found f g v n x xs u l o a (down s t e) = subst (λ w. (j : ℕ) × TurnsAt ys w.kind w.place j w.numerator) (sym e) (n - 1, found Hollow f g v n x xs l o a (side_under g.value f.value s) (side_under g.value x t))

  sound : (f g : Spot) (v : ℤ) (n : ℕ) (xs : List ℤ) (u : Turn) → Left ys n xs → On ys g v n → After ys f g → Memᴰ u (turns_of (f ∷ g ∷ flats_after v n xs)) → Found u
  unfolding turns_of flats_after
  sound f g v n [] u l o a m = absurd (Memᴰ.not-nil m)
  sound f g v n (x ∷ xs) u l o a m =
      go (side x v) refl (λ e. sound f g x (suc n) xs u (left_next n x xs l) (on_more g v n x xs l o e) a) (sound g (spot n x) x (suc n) xs u (left_next n x xs l) (on_new n x xs l) (after_new g v n x o)) m
    where
      F : List Spot
      F = flats_after x (suc n) xs

      both : (Memᴰ u (turns_of (g ∷ spot n x ∷ F)) → Found u) → New (side g.value f.value) (side g.value x) g u ⊎ Memᴰ u (turns_of (g ∷ spot n x ∷ F)) → Found u
      both j (inl d) = new_found f g v n x xs u l o a d
      both j (inr d) = j d

      go : (t : Sign) → side x v ≡ t → (x ≡ v → Memᴰ u (turns_of (f ∷ g ∷ F)) → Found u) → (Memᴰ u (turns_of (g ∷ spot n x ∷ F)) → Found u) → Memᴰ u (turns_of (f ∷ g ∷ keep t (spot n x) F)) → Found u
      go below e i j d = both j (new_or_old (side g.value f.value) (side g.value x) g (turns_of (g ∷ spot n x ∷ F)) u d)
      go level e i j d = i (level_same x v e) d
      go above e i j d = both j (new_or_old (side g.value f.value) (side g.value x) g (turns_of (g ∷ spot n x ∷ F)) u d)

  sound_first : (g : Spot) (v : ℤ) (n : ℕ) (xs : List ℤ) (u : Turn) → Left ys n xs → On ys g v n → Memᴰ u (turns_of (g ∷ flats_after v n xs)) → Found u
  unfolding turns_of flats_after
  sound_first g v n [] u l o m = absurd (Memᴰ.not-nil m)
  sound_first g v n (x ∷ xs) u l o m =
      go (side x v) refl (λ e. sound_first g x (suc n) xs u (left_next n x xs l) (on_more g v n x xs l o e)) m
    where
      F : List Spot
      F = flats_after x (suc n) xs

      further : Memᴰ u (turns_of (g ∷ spot n x ∷ F)) → Found u
      further = sound g (spot n x) x (suc n) xs u (left_next n x xs l) (on_new n x xs l) (after_new g v n x o)

      go : (t : Sign) → side x v ≡ t → (x ≡ v → Memᴰ u (turns_of (g ∷ F)) → Found u) → Memᴰ u (turns_of (g ∷ keep t (spot n x) F)) → Found u
      go below e i d = further d
      go level e i d = i (level_same x v e) d
      go above e i d = further d

  -- ---- and what turns is in the list
  -- x is not v, where v is beside it
  apart : (k : TurnKind) (x v : ℤ) → Beside k x v → x ≡ v → ⊥
  apart Ridge x v b e = <ℤ_irrefl (subst (λ z. z <ℤ v) e b)
  apart Hollow x v b e = <ℤ_irrefl (subst (λ z. v <ℤ z) e b)

  side_same : (x v : ℤ) → x ≡ v → side x v ≡ level
  side_same x v e = ap (λ z. side z v) e ∙ ap sign (+ℤ_invr v)

  -- both neighbours of g lie beside it
  head_turn : (k : TurnKind) (f g h : Spot) (l : List Spot) → Beside k f.value g.value → Beside k h.value g.value → Memᴰ (as_turn k g) (turns_of (f ∷ g ∷ h ∷ l))
  unfolding turns_of
  head_turn Ridge f g h l p q = subst₂ (λ s t. Memᴰ (as_turn Ridge g) (turning s t g (turns_of (g ∷ h ∷ l)))) (sym (over_side g.value f.value p)) (sym (over_side g.value h.value q)) (Memᴰ.head refl)
  head_turn Hollow f g h l p q = subst₂ (λ s t. Memᴰ (as_turn Hollow g) (turning s t g (turns_of (g ∷ h ∷ l)))) (sym (under_side g.value f.value p)) (sym (under_side g.value h.value q)) (Memᴰ.head refl)

  -- the turn's flat is g
  here : (k : TurnKind) (f g : Spot) (v : ℤ) (n : ℕ) (xs : List ℤ) (j : ℕ) → Left ys n xs → On ys g v n → After ys f g → n ≤ suc j → TurnsAt ys k g.place j g.value → Memᴰ (as_turn k g) (turns_of (f ∷ g ∷ flats_after v n xs))
  unfolding flats_after
  here k f g v n [] j l o a b t = absurd (omega (arith, l.len, t.inside))
  here k f g v n (x ∷ xs) j l o a b t =
      go (side x v) refl (λ e c. here k f g x (suc n) xs j (left_next n x xs l) (on_more g v n x xs l o e) a c t)
    where
      F : List Spot
      F = flats_after x (suc n) xs

      x_is : (m : ℕ) → m ≡ n → get_or ys m g.value ≡ x
      x_is m e = ap (λ i. get_or ys i g.value) e ∙ left_head n x xs l g.value

      -- the flat goes on
      on : x ≡ v → (j < n) ⊎ (n ≤ j) → n ≤ j
      on e (inl c) = absurd (apart k x g.value (subst (λ z. Beside k z g.value) (x_is (j + 1) (omega arith)) t.after) (e ∙ sym o.val))
      on e (inr c) = c

      -- the flat has ended
      ended : ¬ (x ≡ v) → (j < n) ⊎ (n ≤ j) → j + 1 ≡ n
      ended e (inl c) = omega arith
      ended e (inr c) = absurd (e (sym (x_is n refl) ∙ t.flat n (omega (arith, o.begun)) c ∙ o.val))

      last : ¬ (x ≡ v) → Memᴰ (as_turn k g) (turns_of (f ∷ g ∷ spot n x ∷ F))
      last e = head_turn k f g (spot n x) F (subst (λ z. Beside k z g.value) (a.prior g.value) t.before) (subst (λ z. Beside k z g.value) (x_is (j + 1) (ended e (cases_lt j n))) t.after)

      go : (s : Sign) → side x v ≡ s → (x ≡ v → suc n ≤ suc j → Memᴰ (as_turn k g) (turns_of (f ∷ g ∷ F))) → Memᴰ (as_turn k g) (turns_of (f ∷ g ∷ keep s (spot n x) F))
      go below e i = last (λ q. let c = sym (side_same x v q) ∙ e in absurd (let z : ◌≡◌ {A = ℕ} 0 1 = cc in omega arith))
      go level e i = let q = level_same x v e in i q (omega (arith, on q (cases_lt j n)))
      go above e i = last (λ q. let c = sym (side_same x v q) ∙ e in absurd (let z : ◌≡◌ {A = ℕ} 0 1 = cc in omega arith))

  -- the turn's flat is yet to begin
  ahead : (k : TurnKind) (g : Spot) (v : ℤ) (n : ℕ) (xs : List ℤ) (i j : ℕ) (w : ℤ) → Left ys n xs → On ys g v n → n ≤ i → TurnsAt ys k i j w → Memᴰ (as_turn k (spot i w)) (turns_of (g ∷ flats_after v n xs))
  unfolding flats_after
  ahead k g v n [] i j w l o b t = absurd (omega (arith, l.len, t.inside, t.upto))
  ahead k g v n (x ∷ xs) i j w l o b t =
      go (side x v) refl (cases_lt n i)
      (λ e c. ahead k g x (suc n) xs i j w (left_next n x xs l) (on_more g v n x xs l o e) c t)
      (λ c. older g (spot n x ∷ flats_after x (suc n) xs) (as_turn k (spot i w)) (ahead k (spot n x) x (suc n) xs i j w (left_next n x xs l) (on_new n x xs l) c t))
    where
      F : List Spot
      F = flats_after x (suc n) xs

      goal : List Spot → Type 0
      goal l' = Memᴰ (as_turn k (spot i w)) (turns_of l')

      -- it begins here
      w_is : n ≡ i → w ≡ x
      w_is e = sym (t.flat i (omega arith) t.upto) ∙ ap (λ m. get_or ys m w) (sym e) ∙ left_head n x xs l w

      begins : n ≡ i → goal (g ∷ spot n x ∷ F)
      begins e =
          let p = o.begun in
          let q : n ≤ j = omega (arith, t.upto) in
          Memᴰ.cast (λ d. as_turn k (spot (sym e d) (w_is e d)))
          (here k g (spot n x) x (suc n) xs j (left_next n x xs l) (on_new n x xs l) (after_new g v n x o) (omega arith)
          (subst₂ (λ m z. TurnsAt ys k m j z) (sym e) (w_is e) t))

      parted : n ≡ i → x ≡ v → ⊥
      parted e q = apart k v w (subst (λ z. Beside k z w) (ap (λ m. get_or ys (m - 1) w) (sym e) ∙ o.held (n - 1) w (omega (arith, o.begun)) (omega (arith, o.begun))) t.before) (sym q ∙ sym (w_is e))

      go : (s : Sign) → side x v ≡ s → (n < i) ⊎ (i ≤ n) → (x ≡ v → suc n ≤ i → goal (g ∷ F)) → (suc n ≤ i → goal (g ∷ spot n x ∷ F)) → goal (g ∷ keep s (spot n x) F)
      go below e (inl c) f h = h c
      go below e (inr c) f h = begins (omega arith)
      go level e (inl c) f h = f (level_same x v e) c
      go level e (inr c) f h = absurd (parted (omega arith) (level_same x v e))
      go above e (inl c) f h = h c
      go above e (inr c) f h = begins (omega arith)

start : (x : ℤ) (xs : List ℤ) → Left (x ∷ xs) 1 xs
start x xs = record { len = omega arith; reads = λ k d. let e : 1 + k ≡ suc k = omega arith in ap (λ m. get_or (x ∷ xs) m d) e }

pub turns_are_these : TurnsAreThese
unfolding turns flats turns_of Found
turns_are_these [] u = (λ m. absurd (Memᴰ.not-nil m), λ f. absurd (omega (arith, f.1.inside)))
turns_are_these (x ∷ xs) u = (
  λ m. sound_first (x ∷ xs) (spot 0 x) x 1 xs u (start x xs) first m,
  λ f. ahead (x ∷ xs) u.kind (spot 0 x) x 1 xs u.place f.0 u.numerator (start x xs) first f.1.some f.1,
)
  where
    first : On (x ∷ xs) (spot 0 x) x 1
    first = record { begun = omega arith; val = refl; held = λ m d a b. let e : m ≡ 0 = omega arith in ap (λ k. get_or (x ∷ xs) k d) e }
