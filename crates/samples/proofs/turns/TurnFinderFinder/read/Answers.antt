-- Each arm is one step along the flats.
use Rattle.std.proofs.Common.{◌≡◌, Less, Equal, Greater, rules}
use Rattle.std.proofs.lemmas.Cmp.{int_ranked}
use Rattle.std.proofs.lemmas.Int.{to_z-of_z}
use Rattle.samples.specs.declared.turns.Heading.TheVariants.{Rising, Falling}
use Rattle.samples.proofs.Turning.{turns_level, rising_on, falling_on, up_again, down_again}
use Rattle.samples.proofs.turns.TurnFinderFinder.read.Goals as goal

pub returns-in_default-Equal : goal.returns-in_default-Equal
returns-in_default-Equal c =
    let f = c.ranges.sample in
    λ rest. turns_level _ _ _ _ _ rest (int_ranked c.args.sample c.args.self.now.last Equal (simp to_z-of_z at c.in_default-Equal.ensures))

pub returns-in-Falling-Greater : goal.returns-in-Falling-Greater
returns-in-Falling-Greater c =
    let f = c.ranges.sample in
    simp (c.begin.ensures, to_z-of_z) (λ rest. up_again _ _ _ _ _ rest _ (int_ranked c.args.sample c.args.self.now.last Greater (simp to_z-of_z at c.in-Falling-Greater.ensures)) c.in-Falling-Greater.is-0 c.turn-hollow.ensures)

pub returns-in_default-Greater : goal.returns-in_default-Greater
returns-in_default-Greater c =
    let f = c.ranges.sample in
    let other : (c.args.self.now.heading ≡ Falling → ⊥) = λ e. search rules in
    simp (c.begin-in_default-Greater.ensures, to_z-of_z) (λ rest. rising_on _ _ _ _ _ rest (int_ranked c.args.sample c.args.self.now.last Greater (simp to_z-of_z at c.in_default-Greater.ensures)) other)

pub returns-in-Rising-Less : goal.returns-in-Rising-Less
returns-in-Rising-Less c =
    let f = c.ranges.sample in
    simp (c.begin-in-Rising-Less.ensures, to_z-of_z) (λ rest. down_again _ _ _ _ _ rest _ (int_ranked c.args.sample c.args.self.now.last Less (simp to_z-of_z at c.in-Rising-Less.ensures)) c.in-Rising-Less.is-0 c.turn-ridge.ensures)

pub returns-in_default-Less : goal.returns-in_default-Less
returns-in_default-Less c =
    let f = c.ranges.sample in
    let other : (c.args.self.now.heading ≡ Rising → ⊥) = λ e. search rules in
    simp (c.begin-in_default-Less.ensures, to_z-of_z) (λ rest. falling_on _ _ _ _ _ rest (int_ranked c.args.sample c.args.self.now.last Less (simp to_z-of_z at c.in_default-Less.ensures)) other)
