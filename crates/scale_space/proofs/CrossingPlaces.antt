-- The crossings of a list are those that Crosses describes.
use Rattle.std.proofs.Common.{◌≡◌, ℕ, zero, suc, ◌+◌, ◌<◌, ◌⊎◌, List, [], ◌∷◌, length, get_or, ℤ, sym, refl, ap, ◌∙◌, subst, subst₂, inl, inr, arith}
use mathlib.Core.List.Memᴰ
use mathlib.Core.List.{Memᴰ}
use lib.IntN.{+ℤ_invr}
use Rattle.scale_space.specs.Signs.{Sign, below, level, above, sign, side, keep}
use Rattle.scale_space.specs.declared.crossings.Crossing.{Crossing}
use Rattle.scale_space.specs.declared.crossings.Direction.{Direction}
use Rattle.scale_space.specs.declared.crossings.Direction.TheVariants.{Up, Down}
use Rattle.scale_space.specs.Turns.{Spot, spot}
use Rattle.scale_space.specs.Crossings.{away, crossing, crossings_of, crossings}
use Rattle.scale_space.specs.Places.{Over, Crosses, CrossingsAreThese}
use Rattle.scale_space.proofs.Sides.{level_same, side_over, side_under, over_side, under_side}

-- ---- the first sample that is not at the height
record First (h : ℤ) (m : ℕ) (xs : List ℤ) (k : ℕ) : Type 0 where
  rest : List Spot
  is : away h m xs ≡ spot (m + k) (get_or xs k h) ∷ rest

record Start (h : ℤ) (m : ℕ) (xs : List ℤ) : Type 0 where
  k : ℕ
  first : First h m xs k
  inside : k < length xs
  along : (l : ℕ) → l < k → get_or xs l h ≡ h

start : (h : ℤ) (m : ℕ) (xs : List ℤ) → (away h m xs ≡ []) ⊎ Start h m xs
unfolding away
start h m [] = inl refl
start h m (x ∷ xs) = go (side x h) refl (start h (suc m) xs)
  where
    here : (t : Sign) → keep t (spot m x) (away h (suc m) xs) ≡ spot m x ∷ away h (suc m) xs → side x h ≡ t → (away h m (x ∷ xs) ≡ []) ⊎ Start h m (x ∷ xs)
    here t q e = inr (record {
      k = 0;
      first = record { rest = away h (suc m) xs; is = ap (λ s. keep s (spot m x) (away h (suc m) xs)) e ∙ q ∙ ap (λ n. spot n x ∷ away h (suc m) xs) (omega arith) };
      inside = omega arith;
      along = λ l b. absurd (omega arith);
    })

    go : (t : Sign) → side x h ≡ t → (away h (suc m) xs ≡ []) ⊎ Start h (suc m) xs → (away h m (x ∷ xs) ≡ []) ⊎ Start h m (x ∷ xs)
    go below e s = here below refl e
    go above e s = here above refl e
    go level e (inl s) = inl (ap (λ w. keep w (spot m x) (away h (suc m) xs)) e ∙ s)
    go level e (inr s) = inr (record {
      k = suc s.k;
      first = record { rest = s.first.rest; is = ap (λ w. keep w (spot m x) (away h (suc m) xs)) e ∙ s.first.is ∙ ap (λ n. spot n (get_or xs s.k h) ∷ s.first.rest) (omega arith) };
      inside = omega (arith, s.inside);
      along = λ l. elim l as (λ n. n < suc s.k → get_or (x ∷ xs) n h ≡ h) [ zero ↦ λ b. level_same x h e | suc n ↦ λ b. s.along n (omega arith) ];
    })

-- ---- a crossing in the list crosses
record Found (h : ℤ) (n : ℕ) (xs : List ℤ) (c : Crossing) : Type 0 where
  i : ℕ
  j : ℕ
  from_is : c.from ≡ n + i
  to_is : c.to ≡ n + j
  crosses : Crosses h xs i j c.direction

shift : (h : ℤ) (n : ℕ) (x : ℤ) (xs : List ℤ) (c : Crossing) → Found h (suc n) xs c → Found h n (x ∷ xs) c
shift h n x xs c f = record {
  i = suc f.i;
  j = suc f.j;
  from_is = f.from_is ∙ omega arith;
  to_is = f.to_is ∙ omega arith;
  crosses = record {
    ahead = omega (arith, f.crosses.ahead);
    inside = omega (arith, f.crosses.inside);
    over = f.crosses.over;
    along = λ k. elim k as (λ m. suc f.i < m → m < suc f.j → get_or (x ∷ xs) m h ≡ h) [ zero ↦ λ a b. absurd (omega arith) | suc m ↦ λ a b. f.crosses.along m (omega arith) (omega arith) ];
  };
}

data New (s t : Sign) (f g : Spot) (c : Crossing) : Type 0 where
  rise : s ≡ below → t ≡ above → c ≡ record { from = f.place; to = g.place; direction = Up } → New s t f g c
  fall : s ≡ above → t ≡ below → c ≡ record { from = f.place; to = g.place; direction = Down } → New s t f g c

new_or_old : (s t : Sign) (f g : Spot) (cs : List Crossing) (c : Crossing) → Memᴰ c (crossing s t f g cs) → New s t f g c ⊎ Memᴰ c cs
new_or_old below below f g cs c m = inr m
new_or_old below level f g cs c m = inr m
new_or_old below above f g cs c m = go (Memᴰ.cases_cons m)
  where
    go : (c ≡ record { from = f.place; to = g.place; direction = Up }) ⊎ Memᴰ c cs → New below above f g c ⊎ Memᴰ c cs
    go (inl e) = inl (rise refl refl e)
    go (inr d) = inr d
new_or_old level t f g cs c m = inr m
new_or_old above below f g cs c m = go (Memᴰ.cases_cons m)
  where
    go : (c ≡ record { from = f.place; to = g.place; direction = Down }) ⊎ Memᴰ c cs → New above below f g c ⊎ Memᴰ c cs
    go (inl e) = inl (fall refl refl e)
    go (inr d) = inr d
new_or_old above level f g cs c m = inr m
new_or_old above above f g cs c m = inr m

new_found : (h : ℤ) (n : ℕ) (x : ℤ) (xs : List ℤ) (c : Crossing) (s : Start h (suc n) xs) → New (side x h) (side (get_or xs s.k h) h) (spot n x) (spot (suc n + s.k) (get_or xs s.k h)) c → Found h n (x ∷ xs) c
new_found h n x xs c s d = record {
  i = 0;
  j = suc s.k;
  from_is = from_of d;
  to_is = to_of d;
  crosses = record {
    ahead = omega arith;
    inside = omega (arith, s.inside);
    over = over_of d;
    along = λ k. elim k as (λ m. 0 < m → m < suc s.k → get_or (x ∷ xs) m h ≡ h) [ zero ↦ λ a b. absurd (omega arith) | suc m ↦ λ a b. s.along m (omega arith) ];
  };
}
  where
    y : ℤ
    y = get_or xs s.k h

    from_of : New (side x h) (side y h) (spot n x) (spot (suc n + s.k) y) c → c.from ≡ n + 0
    from_of (rise a b e) = ap (λ z. z.from) e ∙ omega arith
    from_of (fall a b e) = ap (λ z. z.from) e ∙ omega arith

    to_of : New (side x h) (side y h) (spot n x) (spot (suc n + s.k) y) c → c.to ≡ n + suc s.k
    to_of (rise a b e) = ap (λ z. z.to) e ∙ omega arith
    to_of (fall a b e) = ap (λ z. z.to) e ∙ omega arith

    over_of : New (side x h) (side y h) (spot n x) (spot (suc n + s.k) y) c → Over c.direction x h y
    over_of (rise a b e) = subst (λ w. Over w x h y) (sym (ap (λ z. z.direction) e)) (side_under x h a, side_over y h b)
    over_of (fall a b e) = subst (λ w. Over w x h y) (sym (ap (λ z. z.direction) e)) (side_over x h a, side_under y h b)

sound_cons : (h : ℤ) (n : ℕ) (x : ℤ) (xs : List ℤ) (c : Crossing) → (Memᴰ c (crossings_of h (away h (suc n) xs)) → Found h (suc n) xs c) → (away h (suc n) xs ≡ []) ⊎ Start h (suc n) xs → Memᴰ c (crossings_of h (spot n x ∷ away h (suc n) xs)) → Found h n (x ∷ xs) c
unfolding crossings_of
sound_cons h n x xs c ih (inl e) m = absurd (Memᴰ.not-nil (subst (λ l. Memᴰ c (crossings_of h (spot n x ∷ l))) e m))
sound_cons h n x xs c ih (inr s) m = go (new_or_old (side x h) (side y h) (spot n x) g (crossings_of h (g ∷ s.first.rest)) c (subst (λ l. Memᴰ c (crossings_of h (spot n x ∷ l))) s.first.is m))
  where
    y : ℤ
    y = get_or xs s.k h

    g : Spot
    g = spot (suc n + s.k) y

    go : New (side x h) (side y h) (spot n x) g c ⊎ Memᴰ c (crossings_of h (g ∷ s.first.rest)) → Found h n (x ∷ xs) c
    go (inl d) = new_found h n x xs c s d
    go (inr d) = shift h n x xs c (ih (subst (λ l. Memᴰ c (crossings_of h l)) (sym s.first.is) d))

sound : (h : ℤ) (n : ℕ) (xs : List ℤ) (c : Crossing) → Memᴰ c (crossings_of h (away h n xs)) → Found h n xs c
unfolding away crossings_of
sound h n [] c m = absurd (Memᴰ.not-nil m)
sound h n (x ∷ xs) c m = go (side x h) (sound h (suc n) xs c) m
  where
    go : (t : Sign) → (Memᴰ c (crossings_of h (away h (suc n) xs)) → Found h (suc n) xs c) → Memᴰ c (crossings_of h (keep t (spot n x) (away h (suc n) xs))) → Found h n (x ∷ xs) c
    go below ih d = sound_cons h n x xs c ih (start h (suc n) xs) d
    go level ih d = shift h n x xs c (ih d)
    go above ih d = sound_cons h n x xs c ih (start h (suc n) xs) d

-- ---- and what crosses is in the list
abbrev Stays : Sign → Type 0
Stays t = (f : Spot) (l : List Spot) → keep t f l ≡ f ∷ l

reach : (h : ℤ) (m : ℕ) (xs : List ℤ) (j : ℕ) → j < length xs → ((l : ℕ) → l < j → get_or xs l h ≡ h) → Stays (side (get_or xs j h) h) → First h m xs j
unfolding away
reach h m [] j b a s = absurd (omega arith)
reach h m (x ∷ xs) zero b a s = record { rest = away h (suc m) xs; is = s (spot m x) (away h (suc m) xs) ∙ ap (λ n. spot n x ∷ away h (suc m) xs) (omega arith) }
reach h m (x ∷ xs) (suc j) b a s =
    let r = reach h (suc m) xs j (omega arith) (λ l q. a (suc l) (omega arith)) s in
    record { rest = r.rest; is = ap (λ w. keep w (spot m x) (away h (suc m) xs)) (ap (λ z. side z h) (a 0 (omega arith)) ∙ ap sign (+ℤ_invr h)) ∙ r.is ∙ ap (λ n. spot n (get_or xs j h) ∷ r.rest) (omega arith) }

old : (s t : Sign) (f g : Spot) (cs : List Crossing) (c : Crossing) → Memᴰ c cs → Memᴰ c (crossing s t f g cs)
old below below f g cs c m = m
old below level f g cs c m = m
old below above f g cs c m = Memᴰ.tail m
old level t f g cs c m = m
old above below f g cs c m = Memᴰ.tail m
old above level f g cs c m = m
old above above f g cs c m = m

older : (h : ℤ) (f : Spot) (l : List Spot) (c : Crossing) → Memᴰ c (crossings_of h l) → Memᴰ c (crossings_of h (f ∷ l))
unfolding crossings_of
older h f [] c m = m
older h f (g ∷ l) c m = old (side f.value h) (side g.value h) f g (crossings_of h (g ∷ l)) c m

lift_keep : (t : Sign) (h : ℤ) (f : Spot) (l : List Spot) (c : Crossing) → Memᴰ c (crossings_of h l) → Memᴰ c (crossings_of h (keep t f l))
lift_keep below h f l c m = older h f l c m
lift_keep level h f l c m = m
lift_keep above h f l c m = older h f l c m

met : (w : Direction) (s t : Sign) (h : ℤ) (f g : Spot) (l : List Spot) (m : List Spot) → s ≡ side f.value h → t ≡ side g.value h → m ≡ g ∷ l → Memᴰ (record { from = f.place; to = g.place; direction = w }) (crossing s t f g (crossings_of h (g ∷ l))) → Memᴰ (record { from = f.place; to = g.place; direction = w }) (crossings_of h (f ∷ m))
unfolding crossings_of
met w s t h f g l m p q e d =
    let c : Crossing = record { from = f.place; to = g.place; direction = w } in
    subst (λ k. Memᴰ c (crossings_of h (f ∷ k))) (sym e)
    (subst (λ u. Memᴰ c (crossing (side f.value h) u f g (crossings_of h (g ∷ l)))) q (subst (λ u. Memᴰ c (crossing u t f g (crossings_of h (g ∷ l)))) p d))

new : (w : Direction) (h : ℤ) (n : ℕ) (x : ℤ) (xs : List ℤ) (j : ℕ) → Over w x h (get_or xs j h) → First h (suc n) xs j → Memᴰ (record { from = n; to = suc n + j; direction = w }) (crossings_of h (keep (side x h) (spot n x) (away h (suc n) xs)))
new Up h n x xs j o r =
    let g = spot (suc n + j) (get_or xs j h) in
    let a = under_side x h o.0 in
    subst (λ t. Memᴰ (record { from = n; to = suc n + j; direction = Up }) (crossings_of h (keep t (spot n x) (away h (suc n) xs)))) (sym a)
    (met Up below above h (spot n x) g r.rest (away h (suc n) xs) (sym a) (sym (over_side (get_or xs j h) h o.1)) r.is (Memᴰ.head refl))
new Down h n x xs j o r =
    let g = spot (suc n + j) (get_or xs j h) in
    let a = over_side x h o.0 in
    subst (λ t. Memᴰ (record { from = n; to = suc n + j; direction = Down }) (crossings_of h (keep t (spot n x) (away h (suc n) xs)))) (sym a)
    (met Down above below h (spot n x) g r.rest (away h (suc n) xs) (sym a) (sym (under_side (get_or xs j h) h o.1)) r.is (Memᴰ.head refl))

stays_over : (w : Direction) (x h y : ℤ) → Over w x h y → Stays (side y h)
stays_over Up x h y o = subst Stays (sym (over_side y h o.1)) (λ f l. refl)
stays_over Down x h y o = subst Stays (sym (under_side y h o.1)) (λ f l. refl)

same_crossing : (i j k l : ℕ) (w : Direction) → i ≡ k → j ≡ l → ◌≡◌ {A = Crossing} (record { from = i; to = j; direction = w }) (record { from = k; to = l; direction = w })
same_crossing i j k l w p q = λ d. record { from = p d; to = q d; direction = w }

complete : (h : ℤ) (n : ℕ) (xs : List ℤ) (i j : ℕ) (w : Direction) → Crosses h xs i j w → Memᴰ (record { from = n + i; to = n + j; direction = w }) (crossings_of h (away h n xs))
unfolding away
complete h n [] i j w c = absurd (omega (arith, c.inside))
complete h n (x ∷ xs) i zero w c = absurd (omega (arith, c.ahead))
complete h n (x ∷ xs) zero (suc j) w c =
    Memᴰ.cast (same_crossing (n + 0) (n + suc j) n (suc n + j) w (omega arith) (omega arith))
    (new w h n x xs j c.over (reach h (suc n) xs j (omega (arith, c.inside)) (λ l b. c.along (suc l) (omega arith) (omega arith)) (stays_over w x h (get_or xs j h) c.over)))
complete h n (x ∷ xs) (suc i) (suc j) w c =
    Memᴰ.cast (same_crossing (n + suc i) (n + suc j) (suc n + i) (suc n + j) w (omega arith) (omega arith))
    (lift_keep (side x h) h (spot n x) (away h (suc n) xs) (record { from = suc n + i; to = suc n + j; direction = w })
    (complete h (suc n) xs i j w (record { ahead = omega (arith, c.ahead); inside = omega (arith, c.inside); over = c.over; along = λ k a b. c.along (suc k) (omega arith) (omega arith) })))

pub crossings_are_these : CrossingsAreThese
unfolding crossings
crossings_are_these h xs c = (there, back)
  where
    there : Memᴰ c (crossings_of h (away h 0 xs)) → Crosses h xs c.from c.to c.direction
    there m = let f = sound h 0 xs c m in subst₂ (λ i j. Crosses h xs i j c.direction) (sym (f.from_is ∙ omega arith)) (sym (f.to_is ∙ omega arith)) f.crosses

    back : Crosses h xs c.from c.to c.direction → Memᴰ c (crossings_of h (away h 0 xs))
    back d = Memᴰ.cast (same_crossing c.from c.to (0 + c.from) (0 + c.to) c.direction (omega arith) (omega arith)) (complete h 0 xs c.from c.to c.direction d)
