-- What a job is about, and the kind and the level of an object.
use Rattle.std.specs.Prelude.{ℕ}
use Rattle.jobs.specs.declared.job.Kind as kind
use Rattle.jobs.specs.declared.job.Kind.{Kind}
use Rattle.jobs.specs.declared.job.Object.{Object}
use Rattle.jobs.specs.declared.job.Object.TheVariants.{Lines, Vectors, Matrices}
use Rattle.jobs.specs.declared.job.Given.{Given}
use Rattle.jobs.specs.declared.job.Given.TheVariants.{Level, Origami}
use Rattle.origami.specs.declared.gluing.Gluing.{Gluing}

abbrev pub kind_of : Object → Kind
kind_of (Lines a) = kind.TheVariants.Lines
kind_of (Vectors a) = kind.TheVariants.Vectors
kind_of (Matrices a) = kind.TheVariants.Matrices

abbrev pub level_of : Object → ℕ
level_of (Lines a) = a.vectors.level.n
level_of (Vectors a) = a.level.n
level_of (Matrices a) = a.level.n

-- a kind of level action at its level, or squares that are glued
pub data Thing : Type 0 where
  level : Kind → ℕ → Thing
  squares : Gluing → Thing

abbrev pub level_thing : Object → Thing
level_thing o = level (kind_of o) (level_of o)

abbrev pub thing_of : Given → Thing
thing_of (Level o) = level_thing o
thing_of (Origami a) = squares a.gluing
