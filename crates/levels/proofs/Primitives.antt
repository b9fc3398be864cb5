-- Which vectors are primitive, and that the actions on vectors and on lines keep the laws of an action, with no premise.
use Rattle.std.proofs.Common.{◌≡◌, ℕ, ◌<◌, ℤ, pos}
use Rattle.numbers.specs.Gcd.{gcd}
use Rattle.modular.specs.Actions.{Laws}
use Rattle.levels.specs.declared.vectors.Vector.{Vector}
use Rattle.levels.specs.laws.Lines.{scaled_primitive_by, least_line_by, line_laws_by}
use Rattle.levels.specs.laws.Spans.{Spans}
use Rattle.levels.specs.laws.Vectors.{combine, sheared_primitive_by, turned_primitive_by, vector_laws_by}
use Rattle.levels.specs.Lines as lines
use Rattle.levels.specs.Lines.{scaled, least, IsLine}
use Rattle.levels.specs.Vectors.{vector, Primitive, first, sheared, turned, alike}

module _ (n : ℕ) (h : 0 < n) where
  pub spans→primitive : (x y : ℤ) → Spans n x y → Primitive n (vector n x y)
  spans→primitive = (combine n h).from_spans

  pub primitive→spans : (v : Vector) → Primitive n v → Spans n (pos v.c) (pos v.d)
  primitive→spans = (combine n h).to_spans

  pub sheared_primitive : (v : Vector) → Primitive n v → Primitive n (sheared n v)
  sheared_primitive = sheared_primitive_by n (combine n h)

  pub turned_primitive : (v : Vector) → Primitive n v → Primitive n (turned n v)
  turned_primitive = turned_primitive_by n (combine n h)

  pub scaled_primitive : (u : ℕ) (v : Vector) → gcd u n ≡ 1 → Primitive n v → Primitive n (scaled n u v)
  scaled_primitive = scaled_primitive_by n h (combine n h)

  -- the least multiple of a primitive vector is a line
  pub least_line : (v : Vector) → Primitive n v → IsLine n (least n v)
  least_line = least_line_by n h (combine n h)

pub vector_laws : (n : ℕ) → 0 < n → Laws (Primitive n) (first n) (sheared n) (turned n) alike
vector_laws n h = vector_laws_by n h (combine n h)

pub line_laws : (n : ℕ) → 0 < n → Laws (IsLine n) (first n) (lines.sheared n) (lines.turned n) alike
line_laws n h = line_laws_by n h (combine n h)
