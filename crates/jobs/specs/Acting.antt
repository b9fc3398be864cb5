-- The action that a job is about: where it starts, and its two steps.
--     seen_t b t s, seen_s b t s      the two steps of an action, or of the mirror above it where b says so
--     of_action P x b                 P of the action of the thing x, or of the mirror above it
use Rattle.std.specs.Prelude.{Bool, true, false}
use Rattle.modular.specs.Actions.{lead}
use Rattle.modular.specs.Inverses.{back_t, back_s}
use Rattle.levels.specs.Lines as lines
use Rattle.levels.specs.Matrices as matrices
use Rattle.levels.specs.Vectors as vectors
use Rattle.origami.specs.Forms.{least}
use Rattle.origami.specs.Origamis.{sheared_form, turned_form}
use Rattle.jobs.specs.Objects.{Thing, level, squares}
use Rattle.jobs.specs.declared.job.Kind.TheVariants.{Lines, Vectors, Matrices}

module _ {R : Type 0} where
  abbrev pub seen_t : Bool → (R → R) → (R → R) → R → R
  seen_t false t s = t
  seen_t true t s = lead t s back_t

  abbrev pub seen_s : Bool → (R → R) → (R → R) → R → R
  seen_s false t s = s
  seen_s true t s = lead t s back_s

module _ {X : Type 1} (P : (R : Type 0) → R → (R → R) → (R → R) → X) where
  -- P of an action, or of its mirror
  abbrev pub of_seen : {R : Type 0} → Bool → R → (R → R) → (R → R) → X
  of_seen {R} b start t s = P R start (seen_t b t s) (seen_s b t s)

  abbrev pub of_action : Thing → Bool → X
  of_action (level Lines n) b = of_seen b (vectors.first n) (lines.sheared n) (lines.turned n)
  of_action (level Vectors n) b = of_seen b (vectors.first n) (vectors.sheared n) (vectors.turned n)
  of_action (level Matrices n) b = of_seen b (matrices.first n) (matrices.sheared n) (matrices.turned n)
  of_action (squares g) b = of_seen b (least g) sheared_form turned_form
