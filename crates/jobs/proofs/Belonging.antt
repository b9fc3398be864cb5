-- Congruences of entries, and the answers about them.
use Rattle.std.proofs.Common.{◌≡◌, ℕ, ◌<◌, Bool, true, false, eqb, List, [], ◌∷◌, ◌++◌, ℤ, pos, ◌+ℤ◌, ◌*ℤ◌, neg_ℤ, Decides, sym, refl, ap, ◌∙◌, subst, append_assoc, append-nil, to_z-of_z, w64, SFits, to_z, of_z, eq-eqb, eqb-true}
use lib.IntN.{neg_ℤ-neg_ℤ, +ℤ_idr}
use Rattle.std.specs.Int.{int_rem_euclid}
use Rattle.levels.specs.Levels.{IsLevel}
use Rattle.levels.specs.laws.Matrices.{matrix_laws}
use Rattle.levels.proofs.LineMembers.{lines_at}
use Rattle.levels.proofs.MatrixMembers.{matrices_at}
use Rattle.levels.proofs.Primitives.{line_laws, vector_laws}
use Rattle.levels.proofs.VectorMembers.{vectors_at}
use Rattle.modular.specs.Matrix.{M2, det}
use Rattle.modular.specs.Mirror.{mirrored}
use Rattle.modular.proofs.Layers.{mirror_members}
use Rattle.modular.proofs.Through.{det_word}
use Rattle.numbers.proofs.Ring.{solve, ◌⊗◌, ◌⊝◌, ⊖◌, ◌≐◌}
use Rattle.numbers.specs.Residues.{Cong, residue}
use Rattle.numbers.proofs.Congruence.{cong_neg, residue_rem, residue_same}
use Rattle.numbers.proofs.Integers.{mul_zero}
use Rattle.jobs.specs.Members.{InGroup, ActionMember, Answer, AnswerAll}
use Rattle.jobs.specs.Objects.{level, level_of}
use Rattle.jobs.specs.declared.job.Object.{Object}
use Rattle.jobs.specs.declared.job.Object.TheVariants as object
use Rattle.jobs.specs.declared.job.Kind.{Kind}
use Rattle.jobs.specs.declared.job.Kind.TheVariants.{Lines, Vectors, Matrices}

-- numbers of 64 bits are equal where their bits are
pub same_bits : (x y : ℤ) → SFits w64 x → SFits w64 y → Decides (eqb (of_z w64 x) (of_z w64 y)) (x ≡ y)
same_bits x y f g =
    (λ t. sym (to_z-of_z f) ∙ ap (to_z w64) (eqb-true (of_z w64 x) (of_z w64 y) t) ∙ to_z-of_z g, λ e. eq-eqb (of_z w64 x) (of_z w64 y) (ap (of_z w64) e))

-- modulo 0, congruent is equal
pub modulo_zero : (n : ℕ) (x y : ℤ) → n ≡ 0 → (x ≡ y → Cong n x y) × (Cong n x y → x ≡ y)
modulo_zero n x y e = (
  λ h. record { factor = pos 0; apart = h ∙ sym (+ℤ_idr y) ∙ ap (λ k. y +ℤ k) (sym none) },
  λ h. h.apart ∙ ap (λ k. y +ℤ h.factor *ℤ pos k) e ∙ ap (λ k. y +ℤ k) (mul_zero h.factor) ∙ +ℤ_idr y,
)
  where
    none : pos 0 *ℤ pos n ≡ pos 0
    none = ap (λ k. pos 0 *ℤ pos k) e

-- two numbers are congruent where their remainders are equal
pub same_remainders : (n : ℕ) (x y m p q : ℤ) → 0 < n → m ≡ pos n → p ≡ int_rem_euclid x m → q ≡ int_rem_euclid y m → (p ≡ q → Cong n x y) × (Cong n x y → p ≡ q)
same_remainders n x y m p q h e f g =
    let r : p ≡ pos (residue n x) = f ∙ ap (int_rem_euclid x) e ∙ residue_rem n x in
    let s : q ≡ pos (residue n y) = g ∙ ap (int_rem_euclid y) e ∙ residue_rem n y in (
      λ k. let t : residue n x ≡ residue n y = cc in (residue_same n x y h).0 t,
      λ k. r ∙ ap pos ((residue_same n x y h).1 k) ∙ sym s,
    )

-- a sign changes no congruence with 0
turned : {n : ℕ} {x : ℤ} → Cong n x (pos 0) → Cong n (neg_ℤ x) (pos 0)
turned h = cong_neg h

turned_back : (n : ℕ) (x : ℤ) → Cong n (neg_ℤ x) (pos 0) → Cong n x (pos 0)
turned_back n x h = subst (λ z. Cong n z (pos 0)) (neg_ℤ-neg_ℤ x) (cong_neg h)

-- so the group of a level is its own mirror
own_mirror : (k : Kind) (n : ℕ) (m : M2) → (InGroup k n m → InGroup k n (mirrored m)) × (InGroup k n (mirrored m) → InGroup k n m)
own_mirror Lines n m = (turned, turned_back n m.c)
own_mirror Vectors n m = (λ h. (turned h.0, h.1), λ h. (turned_back n m.c h.0, h.1))
own_mirror Matrices n m =
    (λ h. (h.0, turned h.1, turned h.2, h.3), λ h. (h.0, turned_back n m.b h.1, turned_back n m.c h.2, h.3))

-- the members of a level action are those of its congruences
plain_member : (k : Kind) (n : ℕ) → IsLevel n → (m : M2) → det m ≡ pos 1 → (ActionMember (level k n) false m → InGroup k n m) × (InGroup k n m → ActionMember (level k n) false m)
plain_member Lines n l m d = (lines_at n l).2.members m d
plain_member Vectors n l m d = (vectors_at n l).1.members m d
plain_member Matrices n l m d =
    let p = (matrices_at n l).1.members m d in
    (λ h. let q = p.0 h in (q.a_one, q.b_zero, q.c_zero, q.d_one), λ h. p.1 (record { a_one = h.0; b_zero = h.1; c_zero = h.2; d_one = h.3 }))

-- the mirror has the members whose mirrored matrix is one below
mirror_member : (k : Kind) (n : ℕ) → 0 < n → (m : M2) → (ActionMember (level k n) true m → ActionMember (level k n) false (mirrored m)) × (ActionMember (level k n) false (mirrored m) → ActionMember (level k n) true m)
mirror_member Lines n h m = mirror_members (line_laws n h) m
mirror_member Vectors n h m = mirror_members (vector_laws n h) m
mirror_member Matrices n h m = mirror_members (matrix_laws n h) m

-- a member has determinant 1
member_det : (k : Kind) (n : ℕ) (b : Bool) (m : M2) → ActionMember (level k n) b m → det m ≡ pos 1
member_det Lines n true m h = sym (ap det h.1) ∙ det_word h.0
member_det Lines n false m h = sym (ap det h.1) ∙ det_word h.0
member_det Vectors n true m h = sym (ap det h.1) ∙ det_word h.0
member_det Vectors n false m h = sym (ap det h.1) ∙ det_word h.0
member_det Matrices n true m h = sym (ap det h.1) ∙ det_word h.0
member_det Matrices n false m h = sym (ap det h.1) ∙ det_word h.0

-- the mirrored matrix has the same determinant
mirrored_det : (m : M2) → det m ≡ det (mirrored m)
mirrored_det m = solve 4 (λ a b c d. a ⊗ d ⊝ b ⊗ c ≐ a ⊗ d ⊝ (⊖ b) ⊗ (⊖ c)) tt m.a m.b m.c m.d

-- so membership in the action of a job is determinant 1 and the congruences
pub action_member : (k : Kind) (n : ℕ) (b : Bool) → IsLevel n → (m : M2) → (ActionMember (level k n) b m → (det m ≡ pos 1) × InGroup k n m) × ((det m ≡ pos 1) × InGroup k n m → ActionMember (level k n) b m)
action_member k n false l m = (
  λ h. let d = member_det k n false m h in (d, (plain_member k n l m d).0 h),
  λ h. (plain_member k n l m h.0).1 h.1,
)
action_member k n true l m = (
  λ h. let d = member_det k n true m h in
      (d, (own_mirror k n m).1 ((plain_member k n l (mirrored m) (sym (mirrored_det m) ∙ d)).0 ((mirror_member k n l.0 m).0 h))),
  λ h. (mirror_member k n l.0 m).1 ((plain_member k n l (mirrored m) (sym (mirrored_det m) ∙ h.0)).1 ((own_mirror k n m).0 h.1)),
)

-- an object has a level
pub is_level : (o : Object) → IsLevel (level_of o)
is_level (object.Lines a) = a.vectors.level.ok
is_level (object.Vectors a) = a.level.ok
is_level (object.Matrices a) = a.level.ok

-- one answer more
pub answered_more : (G : M2 → Type 0) (ms : List M2) (m : M2) (text line : List ℕ) → AnswerAll G ms text → Answer G m line → AnswerAll G (ms ++ m ∷ []) (text ++ line)
answered_more G [] m text line h a = (line, [], ap (λ t. t ++ line) h ∙ sym (append-nil line), a, refl)
answered_more G (x ∷ ms) m text line h a =
    (h.0, h.1 ++ line, ap (λ t. t ++ line) h.2 ∙ append_assoc h.0 h.1 line, h.3, answered_more G ms m h.1 line h.4 a)
