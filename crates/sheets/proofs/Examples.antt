-- Sheets worked out.
use Rattle.std.proofs.Common.{◌≡◌, [], ◌∷◌, pos, negsuc, Ok, Err, codes, refl}
use Rattle.std.specs.Fmt.{digits}
use Rattle.scale_space.specs.declared.passes.Pass.TheVariants.{Pair, Triple}
use Rattle.scale_space.specs.Divisors.{common, largest}
use Rattle.scale_space.specs.Taps.{scale}
use Rattle.sheets.specs.declared.faults.SheetFault.TheVariants.{WrongNames, Malformed, Refused}
use Rattle.sheets.specs.Profiles.{profile_of, profile_sheet}
use Rattle.sheets.specs.ScheduleSheets.{schedule_of, schedule_sheet}

two_heights : profile_of (codes "station,height\n0,5\n1,-70\n") ≡ Ok (pos 5 ∷ negsuc 69 ∷ [])
two_heights = refl

no_height : profile_of (codes "station,height\n") ≡ Ok []
no_height = refl

no_end : profile_of (codes "station,height") ≡ Err WrongNames
no_end = refl

unended : profile_of (codes "station,height\n0,5") ≡ Err (Malformed 2)
unended = refl

wrong_station : profile_of (codes "station,height\n0,5\n2,5\n") ≡ Err (Refused 3)
wrong_station = refl

malformed_first : profile_of (codes "station,height\n3,05\n") ≡ Err (Malformed 2)
malformed_first = refl

too_high : profile_of (codes "station,height\n0,100001\n") ≡ Err (Refused 2)
too_high = refl

far_too_long : profile_of (codes "station,height\n0,-99999999999999999999999999999999999999\n") ≡ Err (Refused 2)
far_too_long = refl

lowest_height : profile_of (codes "station,height\n0,-100000\n") ≡ Ok (negsuc 99999 ∷ [])
lowest_height = refl

minus_zero : profile_of (codes "station,height\n0,-0\n") ≡ Err (Malformed 2)
minus_zero = refl

plus : profile_of (codes "station,height\n0,+1\n") ≡ Err (Malformed 2)
plus = refl

empty_line : profile_of (codes "station,height\n\n") ≡ Err (Malformed 2)
empty_line = refl

first_bad_line : profile_of (codes "station,height\n1,1\nx\n") ≡ Err (Refused 2)
first_bad_line = refl

heights_written : profile_sheet (pos 5 ∷ negsuc 69 ∷ []) ≡ codes "station,height\n0,5\n1,-70\n"
unfolding digits
heights_written = refl

two_passes : schedule_of (codes "taps,a,b,c\n2,1,1,\n3,1,2,1\n") ≡ Ok (Pair 1 1 ∷ Triple 1 2 1 ∷ [])
unfolding common largest scale
two_passes = refl

reduced : schedule_of (codes "taps,a,b,c\n2,4,6,\n") ≡ Ok (Pair 2 3 ∷ [])
unfolding common largest scale
reduced = refl

not_admitted : schedule_of (codes "taps,a,b,c\n2,1,1,\n3,1,1,1\n") ≡ Err (Refused 3)
unfolding common largest scale
not_admitted = refl

all_zero : schedule_of (codes "taps,a,b,c\n2,0,0,\n") ≡ Err (Refused 2)
unfolding scale
all_zero = refl

heavy : schedule_of (codes "taps,a,b,c\n2,1,1001,\nx\n") ≡ Err (Refused 2)
heavy = refl

pair_of_three : schedule_of (codes "taps,a,b,c\n2,1,2,3\n") ≡ Err (Malformed 2)
pair_of_three = refl

triple_of_two : schedule_of (codes "taps,a,b,c\n3,1,2,\n") ≡ Err (Malformed 2)
triple_of_two = refl

four_taps : schedule_of (codes "taps,a,b,c\n4,1,2,1\n") ≡ Err (Malformed 2)
four_taps = refl

leading_zero : schedule_of (codes "taps,a,b,c\n2,01,1,\n") ≡ Err (Malformed 2)
leading_zero = refl

wrong_names : schedule_of (codes "taps,a,b\n2,1,1,\n") ≡ Err WrongNames
wrong_names = refl

passes_written : schedule_sheet (Pair 1 1000 ∷ Triple 4 9 5 ∷ []) ≡ codes "taps,a,b,c\n2,1,1000,\n3,4,9,5\n"
unfolding digits
passes_written = refl
