-- What holds of every action a of the modular group, whose ghost members are G.
--     MemberOf G a M        some word of M leads the start of a back to itself
--     MembersExactly G a P  the members of a are exactly the matrices of P
--     ThroughMatrix G a     two words with one matrix lead each point to one point
--     AnyWordTells G a      any word of a matrix tells whether it is a member: by leading the start back to itself or not
--     EveryMatrixHasWord    each integer matrix of determinant 1 is the matrix of a word
-- and of a set P of matrices:
--     HasIdentity P         the identity is in it
--     HasProducts P         so is the product of any two of it
--     HasInverses P         each of it has determinant 1, and its inverse is in it too
use Rattle.std.specs.Prelude.{◌≡◌, ◌↔◌, List, pos}
use Rattle.modular.specs.declared.action.Action.{Ghosts}
use Rattle.modular.specs.declared.letter.Letter.{Letter}
use Rattle.modular.specs.Actions.{lead, Member}
use Rattle.modular.specs.Matrix.{M2, det, identity, inverted, ◌·◌}
use Rattle.modular.specs.Words.{matrix}

module _ {A R : Type 0} (G : Ghosts A R) (a : A) where
  abbrev pub MemberOf : M2 → Type 0
  MemberOf M = Member (G.start a) (G.step_t a) (G.step_s a) M

  abbrev pub MembersExactly : (M2 → Type 0) → Type 0
  MembersExactly P = (M : M2) → MemberOf M ↔ P M

  abbrev pub ThroughMatrix : Type 0
  ThroughMatrix = (p : R) → G.point a p → (u v : List Letter) → matrix u ≡ matrix v → lead (G.step_t a) (G.step_s a) u p ≡ lead (G.step_t a) (G.step_s a) v p

  abbrev pub AnyWordTells : Type 0
  AnyWordTells = (w : List Letter) → (lead (G.step_t a) (G.step_s a) w (G.start a) ≡ G.start a) ↔ MemberOf (matrix w)

abbrev pub EveryMatrixHasWord : Type 0
EveryMatrixHasWord = (M : M2) → det M ≡ pos 1 → (w : List Letter) × (matrix w ≡ M)

module _ (P : M2 → Type 0) where
  abbrev pub HasIdentity : Type 0
  HasIdentity = P identity

  abbrev pub HasProducts : Type 0
  HasProducts = (M N : M2) → P M → P N → P (M · N)

  abbrev pub HasInverses : Type 0
  HasInverses = (M : M2) → P M → (det M ≡ pos 1) × P (inverted M)
