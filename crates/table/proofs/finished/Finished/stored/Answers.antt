-- The laws are the theorems of their names.
use Rattle.table.proofs.FinishedLaws.{sound_links_law}
use Rattle.table.proofs.StoredLists.{every_stored_list}
use Rattle.table.proofs.SoundTested.{sound_tells}
use Rattle.table.proofs.finished.Finished.stored.Goals as goal

pub returns-then-not-storable-clause-every_list : goal.returns-then-not-storable-clause-every_list
returns-then-not-storable-clause-every_list g c = every_stored_list

pub returns-then-not-storable-clause-law : goal.returns-then-not-storable-clause-law
returns-then-not-storable-clause-law g c = sound_links_law

pub returns-then-not-storable-clause-test : goal.returns-then-not-storable-clause-test
returns-then-not-storable-clause-test g c = sound_tells

pub returns-then-not-is_sound-clause-every_list : goal.returns-then-not-is_sound-clause-every_list
returns-then-not-is_sound-clause-every_list g c = every_stored_list

pub returns-then-not-is_sound-clause-law : goal.returns-then-not-is_sound-clause-law
returns-then-not-is_sound-clause-law g c = sound_links_law

pub returns-then-not-is_sound-clause-test : goal.returns-then-not-is_sound-clause-test
returns-then-not-is_sound-clause-test g c = sound_tells

pub returns-clause-every_list : goal.returns-clause-every_list
returns-clause-every_list g c = every_stored_list

pub returns-clause-law : goal.returns-clause-law
returns-clause-law g c = sound_links_law

pub returns-clause-test : goal.returns-clause-test
returns-clause-test g c = sound_tells
