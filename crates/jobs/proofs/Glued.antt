-- The lines of right and up: what each says, it says alone, and a list in range is read as it is.
use Rattle.std.proofs.Common.{◌≡◌, ℕ, suc, ◌≤◌, min, List, [], ◌∷◌, Err, codes, sym, refl, ap, ◌∙◌, subst, inl, inr, arith}
use Rattle.origami.specs.Listings.{DeclinedRight, Declined}
use Rattle.origami.specs.declared.refusal.Refusal.{Refusal}
use Rattle.origami.specs.declared.refusal.Refusal.TheVariants.{Degree, NotPermutation, NotReached}
use Rattle.jobs.specs.Bytes.{Keyed}
use Rattle.jobs.specs.Format.{unreadable}
use Rattle.jobs.specs.Line.{Fails, unread, range}
use Rattle.jobs.specs.Lists.{SaysList, capped_all}
use Rattle.jobs.specs.Squares.{AllIn, RefusedRight, RefusedUp, RightLine, RightFault, UpLine, UpFault, ReadsNumbers, ReadsRight, ReadsUp}
use Rattle.jobs.specs.declared.fault.Fault.{Fault}
use Rattle.jobs.specs.declared.fault.Fault.TheVariants as fault
use Rattle.jobs.specs.declared.fault.LineError.{LineError}
use Rattle.jobs.specs.declared.fault.LineError.TheVariants.{Faulty, Memory}
use Rattle.jobs.proofs.Exactly.{line_same, line_sound, fault_same}
use Rattle.jobs.proofs.Listed.{one_list}

-- the maker has one refusal
same_right : (xs : List ℕ) (e f : Refusal) → DeclinedRight xs e → DeclinedRight xs f → e ≡ f
same_right xs Degree Degree d g = refl
same_right xs Degree NotPermutation d g = absurd (d g.0)
same_right xs Degree NotReached d g = absurd g
same_right xs NotPermutation Degree d g = absurd (g d.0)
same_right xs NotPermutation NotPermutation d g = refl
same_right xs NotPermutation NotReached d g = absurd g
same_right xs NotReached f d g = absurd d

same_up : (xs ys : List ℕ) (e f : Refusal) → Declined xs ys e → Declined xs ys f → e ≡ f
same_up xs ys Degree Degree d g = refl
same_up xs ys Degree NotPermutation d g = absurd (d g.0)
same_up xs ys Degree NotReached d g = absurd (d g.0)
same_up xs ys NotPermutation Degree d g = absurd (g d.0)
same_up xs ys NotPermutation NotPermutation d g = refl
same_up xs ys NotPermutation NotReached d g = absurd (d.1 (g.1, g.2))
same_up xs ys NotReached Degree d g = absurd (g d.0)
same_up xs ys NotReached NotPermutation d g = absurd (g.1 (d.1, d.2))
same_up xs ys NotReached NotReached d g = refl

one_right : (xs : List ℕ) (n m : Fault) → RefusedRight xs n → RefusedRight xs m → n ≡ m
one_right xs n m p q = p.2 ∙ ap fault.Origami (same_right xs p.0 q.0 p.1 q.1) ∙ sym q.2

one_up : (xs ys : List ℕ) (n m : Fault) → RefusedUp xs ys n → RefusedUp xs ys m → n ≡ m
one_up xs ys n m p q = p.2 ∙ ap fault.Origami (same_up xs ys p.0 q.0 p.1 q.1) ∙ sym q.2

pub right_same : (text xs ys r q : List ℕ) → RightLine text xs r → RightLine text ys q → (xs ≡ ys) × (r ≡ q)
right_same = line_same (codes "right=") unreadable SaysList AllIn RefusedRight one_list one_right

pub right_sound : (text xs r : List ℕ) (n : Fault) → RightLine text xs r → RightFault text n → ⊥
right_sound = line_sound (codes "right=") unreadable SaysList AllIn RefusedRight one_list one_right

pub right_fault : (text : List ℕ) (n m : Fault) → RightFault text n → RightFault text m → n ≡ m
right_fault = fault_same (codes "right=") unreadable SaysList AllIn RefusedRight one_list one_right

pub up_same : (xs text ys zs r q : List ℕ) → UpLine xs text ys r → UpLine xs text zs q → (ys ≡ zs) × (r ≡ q)
up_same xs = line_same (codes "up=") unreadable SaysList AllIn (RefusedUp xs) one_list (one_up xs)

pub up_sound : (xs text ys r : List ℕ) (n : Fault) → UpLine xs text ys r → UpFault xs text n → ⊥
up_sound xs = line_sound (codes "up=") unreadable SaysList AllIn (RefusedUp xs) one_list (one_up xs)

pub up_fault : (xs text : List ℕ) (n m : Fault) → UpFault xs text n → UpFault xs text m → n ≡ m
up_fault xs = fault_same (codes "up=") unreadable SaysList AllIn (RefusedUp xs) one_list (one_up xs)

-- a list in range is below the cap
pub all_whole : (ns : List ℕ) → AllIn ns → capped_all ns ≡ ns
all_whole [] h = refl
all_whole (n ∷ ns) h =
    let l : n ≤ 1000000000 = h 0 (omega arith) in
    let e : min n 1000000001 ≡ n = omega arith in
    let r = all_whole ns (λ i k. h (suc i) (omega arith)) in
    λ i. e i ∷ r i

pub all_under : (ns : List ℕ) → AllIn (capped_all ns) → capped_all ns ≡ ns
all_under [] h = refl
all_under (n ∷ ns) h =
    let l : min n 1000000001 ≤ 1000000000 = h 0 (omega arith) in
    let e : min n 1000000001 ≡ n = omega arith in
    let r = all_under ns (λ i k. h (suc i) (omega arith)) in
    λ i. e i ∷ r i

-- a list that is not read, or not in range, is a fault of its line, whatever the line asks of it further
module _ (key : List ℕ) (Refused : List ℕ → Fault → Type 0) where
  pub list_fault : (body : List ℕ) (f : Fault) → ReadsNumbers body (Err (Faulty f)) → (text rest : List ℕ) → Keyed key text body rest → Fails key unreadable SaysList AllIn Refused text f
  list_fault body f (inl p) text rest k = subst (Fails key unreadable SaysList AllIn Refused text) (sym p.0) (unread body rest k p.1)
  list_fault body f (inr p) text rest k = subst (Fails key unreadable SaysList AllIn Refused text) (sym p.0) (range body rest p.1 k p.2 p.3)

pub right_unread : (body : List ℕ) (e : LineError) → ReadsNumbers body (Err e) → ReadsRight body (Err e)
right_unread body (Faulty f) h = list_fault (codes "right=") RefusedRight body f h
right_unread body Memory h = tt

pub up_unread : (xs body : List ℕ) (e : LineError) → ReadsNumbers body (Err e) → ReadsUp xs body (Err e)
up_unread xs body (Faulty f) h = list_fault (codes "up=") (RefusedUp xs) body f h
up_unread xs body Memory h = tt
