-- The numbers of the faults, and what a refusal prints.
use Rattle.std.specs.Prelude.{ℕ, List, ◌++◌, codes, decimal}
use Rattle.levels.specs.Levels.{number}
use Rattle.origami.specs.Refusals as refusals
use Rattle.jobs.specs.declared.fault.FieldFault.{FieldFault}
use Rattle.jobs.specs.declared.fault.FieldFault.TheVariants.{Unreadable}
use Rattle.jobs.specs.declared.fault.MatrixFault.{MatrixFault}
use Rattle.jobs.specs.declared.fault.MatrixFault.TheVariants.{Determinant}
use Rattle.jobs.specs.declared.fault.Fault.{Fault}
use Rattle.jobs.specs.declared.fault.Refusal.{Refusal}
use Rattle.jobs.specs.declared.fault.Fault.TheVariants.{Form, Field, Range, Level, Origami, Matrix}

abbrev pub field_number : FieldFault → ℕ
field_number Unreadable = 2

abbrev pub matrix_number : MatrixFault → ℕ
matrix_number Determinant = 6

abbrev pub number_of : Fault → ℕ
number_of Form = 1
number_of (Field f) = field_number f
number_of Range = 3
number_of (Level r) = number r
number_of (Origami r) = refusals.number r
number_of (Matrix f) = matrix_number f

-- the line that a refusal prints, less its line feed
abbrev pub refusal_text : Refusal → List ℕ
refusal_text x = codes "refused=" ++ (decimal (number_of x.fault) ++ (codes "," ++ decimal x.line))
