-- Texts worked out.
use Rattle.std.proofs.Common.{◌≡◌, [], ◌∷◌, pos, negsuc, codes, refl}
use Rattle.std.specs.Fmt.{digits}
use Rattle.scale_space.specs.Levels.{ground}
use Rattle.scale_space.specs.Rounding.{rounded}
use Rattle.scale_space.specs.Turns.{flats_after, flats, turns_of, turns}
use Rattle.samples.specs.declared.refusals.Refusal.TheVariants.{ReachTooLong}
use Rattle.sheets.specs.declared.faults.SheetFault.TheVariants.{TooLong, Malformed}
use Rattle.listing.specs.declared.refusal_lines.Rejection.TheVariants.{Input, Schedule, Profile, Draw}
use Rattle.listing.specs.Listing.{listing}
use Rattle.listing.specs.Rejections.{rejection_line}

first_level : listing 0 (ground (pos 1 ∷ pos 5 ∷ pos 8 ∷ pos 0 ∷ pos 4 ∷ [])) ≡ codes "level,place,kind,height\n0,2,ridge,8\n0,3,hollow,0\n"
unfolding turns turns_of flats flats_after rounded digits
first_level = refl

-- halves go upward, and a flat has the place of its first sample
later_level : listing 12 (record { numerators = pos 0 ∷ negsuc 9 ∷ negsuc 9 ∷ pos 6 ∷ pos 5 ∷ []; scale = 4 }) ≡ codes "12,1,hollow,-2\n12,3,ridge,2\n"
unfolding turns turns_of flats flats_after rounded digits
later_level = refl

no_turn : listing 0 (ground (pos 3 ∷ [])) ≡ codes "level,place,kind,height\n"
unfolding turns turns_of flats flats_after
no_turn = refl

input_refused : rejection_line Input ≡ codes "input,24,0\n"
unfolding digits
input_refused = refl

schedule_refused : rejection_line (Schedule (Malformed 4)) ≡ codes "schedule,21,4\n"
unfolding digits
schedule_refused = refl

profile_refused : rejection_line (Profile TooLong) ≡ codes "profile,24,0\n"
unfolding digits
profile_refused = refl

draw_refused : rejection_line (Draw ReachTooLong) ≡ codes "draw,15,0\n"
unfolding digits
draw_refused = refl
