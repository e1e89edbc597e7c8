use Rattle.texts.proofs.Tables.{text_utf8}
use Rattle.texts.proofs.valid.as_text.Goals as goal

pub from_utf8_unchecked-requires : goal.from_utf8_unchecked-requires
from_utf8_unchecked-requires c = text_utf8 c.args.bytes.now (c.is_utf8.ensures.yes c.if-is_utf8.true)
