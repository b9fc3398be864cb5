-- The range of a number on its line, and a matrix as it is read before its range is looked at.
use Rattle.std.specs.Prelude.{◌<◌, ℤ, pos, ◌≤ℤ◌}
use Rattle.jobs.specs.Format.{IsEntry}
use Rattle.jobs.specs.Numbers.{capped}
use Rattle.modular.specs.Matrix.{M2}
use Rattle.jobs.specs.declared.lines.Place.{Place}
use Rattle.jobs.specs.declared.lines.Place.TheVariants.{Natural, Matrix}

abbrev pub Fits : Place → ℤ → Type 0
Fits Natural z = z ≤ℤ pos 1000000000
Fits (Matrix before) z = (before < 100) × IsEntry z

-- each entry as it is read, up to the cap
abbrev pub capped_matrix : M2 → M2
capped_matrix x = record { a = capped x.a; b = capped x.b; c = capped x.c; d = capped x.d }
