-- What is printed for a job: the listing of the table of its action.
--     TabulatedFor x b xs text      the text is the listing of the action of the thing x, or of its mirror: a finished table whose
--                                   rows are the cosets of the members, and then which of the matrices xs are members
--     CrowdedFor x b                the action of x, or its mirror, has more than 1,200 reachable points
--     GrownFor x b xs r             what growing and listing its table with 1,200 rows gives
use Rattle.std.specs.Prelude.{ℕ, Bool, List, Result, String}
use Rattle.std.specs.declared.alloc.Global.{Global}
use Rattle.modular.specs.Matrix.{M2}
use Rattle.listing.specs.declared.error.Error.{Error}
use Rattle.listing.specs.Grown.{Tabulated, Crowded, GrownOr}
use Rattle.jobs.specs.Acting.{of_action}
use Rattle.jobs.specs.Objects.{Thing}

abbrev pub TabulatedFor : Thing → Bool → List M2 → List ℕ → Type 0
TabulatedFor = of_action (λ R start t s. Tabulated start t s)

abbrev pub CrowdedFor : Thing → Bool → Type 0
CrowdedFor = of_action (λ R start t s. Crowded start t s 1200)

abbrev pub GrownFor : Thing → Bool → List M2 → Result (String Global) Error → Type 0
GrownFor = of_action (λ R start t s. GrownOr start t s 1200)
