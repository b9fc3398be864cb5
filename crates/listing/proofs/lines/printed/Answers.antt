-- Bytes below 128 are text.
use Rattle.std.proofs.lemmas.Str.{IsUtf8-from_ascii}
use Rattle.listing.proofs.Words.{ok_from_cases}
use Rattle.listing.proofs.lines.printed.Goals as goal

pub unwrap-requires : goal.unwrap-requires
unwrap-requires c = ok_from_cases c.from_utf8.result _ _ c.from_utf8.ensures.cases (λ e h. h.0 (IsUtf8-from_ascii _ c.requires))
