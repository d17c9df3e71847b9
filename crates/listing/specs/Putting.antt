-- A text put before a place of a buffer, from the back.
use Rattle.std.specs.Prelude.{◌≡◌, ℕ, ◌-◌, ◌≤◌, List, ◌++◌, length, take, drop}
use Rattle.listing.specs.declared.fields.Pen.{Pen}

-- there is room for text before the place `at`
pub record Roomy (text : List ℕ) (at : ℕ) (buffer : List ℕ) : Type 0 where
  pub enough : length text ≤ at
  pub within : at ≤ length buffer

-- text was put before the place `at`: it begins at `first`, and what stood before and behind it is as it was
pub record Put (text : List ℕ) (at : ℕ) (buffer : List ℕ) (first : ℕ) (after : List ℕ) : Type 0 where
  pub place : first ≡ at - length text
  pub bytes : after ≡ take (at - length text) buffer ++ (text ++ drop at buffer)

-- there is room for text before the pen's place
abbrev pub RoomFor : List ℕ → Pen → Type 0
RoomFor text pen = Roomy text pen.at pen.out.now

-- the pen put text before its place, in the same buffer
pub record Penned (text : List ℕ) (before after : Pen) : Type 0 where
  pub same_reference : after.out.ghost_name ≡ before.out.ghost_name
  pub put : Put text before.at before.out.now after.at after.out.now
