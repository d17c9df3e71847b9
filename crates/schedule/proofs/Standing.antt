-- What stands in a schedule, and how each call ends.
use Rattle.std.proofs.Common.{◌≡◌, ℕ, ◌+◌, ◌^◌, ◌<◌, ◌≤◌, true, List, [], ◌∷◌, ◌++◌, length, Ok, Err, refl, ap, le_trans, arith}
use Rattle.std.specs.List.{remove}
use Rattle.std.proofs.ByRecursion.{All-append, All-push}
use Rattle.std.proofs.lemmas.List.{length_push, length-append}
use Rattle.std.proofs.lemmas.List.Edits.{length-remove}
use Rattle.std.proofs.lemmas.Bool.{le-leb, lt-leb}
use Rattle.fixed_list.proofs.Lengths.{length_listed}
use Rattle.scale_space.specs.declared.passes.Pass.{Pass}
use Rattle.scale_space.specs.Passes.{product, Proper}
use Rattle.samples.specs.declared.refusals.Refusal.TheVariants.{ScaleTooLarge}
use Rattle.schedule.specs.declared.schedules.Schedule.{Schedule}
use Rattle.schedule.specs.Tests.{proper, all_proper}
use Rattle.schedule.specs.Standing.{Standing}
use Rattle.schedule.specs.Calls.{passes, Ends, replaced}
use Rattle.schedule.proofs.Meaning.{proper_means, all_proper_means, all_proper_test}
use Rattle.schedule.proofs.Lists.{removed_proper, removed_product_le}

-- what the ghost fields of a schedule say
pub standing : (s : Schedule) → Standing (passes s)
standing s = record { short = omega (arith, length_listed s.list, s.list.short); each = all_proper_means (passes s) s.proper; bounded = s.bounded }

-- and back: the ghost fields, from what is to stand
pub held : (ps ws : List Pass) → ps ≡ ws → Standing ws → record { proper : all_proper ps ≡ true; bounded : product ps ≤ 2 ^ 40 }
held ps ws e s = record { proper = rw e (all_proper_test ws s.each); bounded = rw e s.bounded }

pub standing_pushed : (s : Schedule) (p : Pass) → proper p ≡ true → length (passes s) < 24 → product (passes s ++ p ∷ []) ≤ 2 ^ 40 → Standing (passes s ++ p ∷ [])
standing_pushed s p h l b = record {
  short = omega (arith, length_push (passes s) p);
  each = All-push Proper (passes s) p (standing s).each (proper_means p h);
  bounded = b;
}

pub standing_joined : (s t : Schedule) → length (passes s) + length (passes t) ≤ 24 → product (passes s ++ passes t) ≤ 2 ^ 40 → Standing (passes s ++ passes t)
standing_joined s t l b = record {
  short = omega (arith, length-append (passes s) (passes t));
  each = All-append Proper (passes s) (passes t) (standing s).each (standing t).each;
  bounded = b;
}

pub standing_removed : (ps : List Pass) (place : ℕ) → place < length ps → Standing ps → Standing (remove ps place)
standing_removed ps place l s = record {
  short = omega (arith, length-remove ps place l, s.short);
  each = removed_proper ps place s.each;
  bounded = le_trans (removed_product_le ps place s.each) s.bounded;
}

module _ (ps ws : List Pass) where
  pub ends_large : length ws ≤ 24 → 2 ^ 40 < product ws → Ends (replaced ps ws) (Err ScaleTooLarge) ps
  ends_large h k = rw (le-leb (length ws) 24 h, lt-leb (product ws) (2 ^ 40) k) (record { answer = refl; after = refl })

  pub ends_standing : (n : ℕ) (qs : List Pass) → Standing ws → n ≡ length ws → qs ≡ ws → Ends (replaced ps ws) (Ok n) qs
  ends_standing n qs s e f =
      rw (le-leb (length ws) 24 s.short, le-leb (product ws) (2 ^ 40) s.bounded) (record { answer = ap Ok e; after = f })
