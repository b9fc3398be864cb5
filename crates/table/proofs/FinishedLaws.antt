-- Sound links keep the law of a finished table.
use Rattle.std.proofs.Common.{sym, ◌∙◌}
use Rattle.modular.proofs.Members.{through_matrix, any_word}
use Rattle.modular.proofs.Reaching.{has_word}
use Rattle.table.specs.Finished.{SoundLinksLaw}
use Rattle.table.proofs.Counted.{generators_count}
use Rattle.table.proofs.Cusps.{cusp_law}
use Rattle.table.proofs.Cycles.{width_is}
use Rattle.table.proofs.Generating.{members_generated}
use Rattle.table.proofs.Placed.{place_is}
use Rattle.table.proofs.SoundRows.{links_laws, word_least, rows_listed, rows_whole}

pub sound_links_law : SoundLinksLaw
sound_links_law links k =
    let l = links_laws links k in
    record {
      acts = l;
      words = word_least links k;
      listed = rows_listed links k;
      whole = rows_whole links k;
      through = λ u v e. through_matrix l 0 k.some u v e;
      places = place_is links k;
      members = λ w. let a = any_word l w in (a.1, a.0);
      placed_members = λ x d. let w = has_word x d in (
        λ m. sym (place_is links k x d m.0 m.1) ∙ m.2,
        λ e. (w.0, w.1, place_is links k x d w.0 w.1 ∙ e),
      );
      generated = members_generated links k;
      count = generators_count links k;
      widths = width_is links k;
      cusps = cusp_law links k;
    }
