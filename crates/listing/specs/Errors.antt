-- What an error tells of the text that was to be written.
--     Tells e t      the error is the refusal for which there is no text t; of want of memory nothing is said
use Rattle.std.specs.Prelude.{◌≡◌, ℕ, List, Err, Result}
use Rattle.table.specs.declared.refusal.Refusal.{Refusal}
use Rattle.listing.specs.declared.error.Error.{Error}
use Rattle.listing.specs.declared.error.Error.TheVariants.{Declined, Memory}

abbrev pub Tells : Error → Result (List ℕ) Refusal → Type 0
Tells (Declined x) t = t ≡ Err x
Tells Memory t = Unit {0}
