-- Lines put one after another.
use Rattle.std.proofs.Common.{◌≡◌, ℕ, decimal, ◌+◌, ◌*◌, ◌<◌, ◌≤◌, List, [], ◌∷◌, ◌++◌, length, codes, Ok, Err, sym, refl, ◌∙◌, append_assoc, arith}
use Rattle.std.proofs.lemmas.Bool.{lt-leb, cond-false}
use Rattle.std.proofs.lemmas.List.{length-append}
use Rattle.std.specs.List.{flat_map}
use Rattle.scale_space.specs.declared.passes.Pass.{Pass}
use Rattle.scale_space.specs.declared.passes.Pass.TheVariants.{Pair, Triple}
use Rattle.sheets.specs.declared.faults.SheetFault.TheVariants.{BufferTooShort}
use Rattle.sheets.specs.Lines.{lines_of, answer}
use Rattle.sheets.specs.ScheduleSheets.{pass_line, schedule_sheet}

-- a pass's line with its end
abbrev pub line_of : Pass → List ℕ
line_of w = pass_line 0 w ++ (10 ∷ [])

same_line : (k : ℕ) (w : Pass) → pass_line k w ≡ pass_line 0 w
same_line k (Pair a b) = refl
same_line k (Triple a b c) = refl

pub joined_lines : (k : ℕ) (ws : List Pass) → lines_of pass_line k ws ≡ flat_map line_of ws
joined_lines k [] = refl
joined_lines k (w ∷ ws) = (λ i. same_line k w i ++ (10 ∷ joined_lines (k + 1) ws i)) ∙ sym (append_assoc (pass_line 0 w) (10 ∷ []) (flat_map line_of ws))

abbrev pub names : List ℕ
names = codes "taps,a,b,c\n"

-- the line of a triple, put behind a text piece by piece
pub triple_line : (was : List ℕ) (a b c : ℕ) → ((((((was ++ codes "3,") ++ decimal a) ++ codes ",") ++ decimal b) ++ codes ",") ++ decimal c) ++ codes "\n" ≡ was ++ line_of (Triple a b c)
triple_line was a b c = simp append_assoc

-- no line is shorter than its marks, its end among them
line_least : (k : ℕ) (w : Pass) → 4 ≤ length (pass_line k w)
line_least k (Pair a b) = omega (arith, length-append (codes "2,") (decimal a ++ (codes "," ++ (decimal b ++ codes ","))), length-append (decimal a) (codes "," ++ (decimal b ++ codes ",")), length-append (decimal b) (codes ","))
line_least k (Triple a b c) = omega (arith, length-append (codes "3,") (decimal a ++ (codes "," ++ (decimal b ++ (codes "," ++ decimal c)))), length-append (decimal a) (codes "," ++ (decimal b ++ (codes "," ++ decimal c))), length-append (decimal b) (codes "," ++ decimal c))

lines_least : (k : ℕ) (ws : List Pass) → 5 * length ws ≤ length (lines_of pass_line k ws)
lines_least k [] = omega arith
lines_least k (w ∷ ws) = omega (arith, length-append (pass_line k w) (10 ∷ lines_of pass_line (k + 1) ws), line_least k w, lines_least (k + 1) ws)

sheet_least : (ws : List Pass) → 11 + 5 * length ws ≤ length (schedule_sheet ws)
sheet_least ws = omega (arith, lines_least 0 ws)

-- what is answered where there is no room even for the marks
pub no_room : (ws : List Pass) (out : List ℕ) → length out < 11 + 5 * length ws → answer (Ok (schedule_sheet ws)) out ≡ (Err BufferTooShort, out)
no_room ws out l = cond-false _ _ _ (lt-leb (length (schedule_sheet ws)) (length out) (omega (arith, sheet_least ws)))
