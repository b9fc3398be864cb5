-- The laws are the theorems of their names.
use Rattle.std.proofs.Common.{refl}
use Rattle.table.proofs.FinishedLaws.{sound_links_law}
use Rattle.table.proofs.StoredLists.{every_stored_list}
use Rattle.table.proofs.SoundTested.{sound_tells}
use Rattle.table.proofs.law.first_link.Goals as goal

pub returns : goal.returns
returns c = record { first = refl; law = sound_links_law; test = sound_tells; stored = every_stored_list }
