-- `sheet::content` meets its contract: the layout of a valid table is sound, and the answer stands behind its word.
use native.Mathlib.Omega.{arith}
use Rattle.settings.specs.SettingsLaws.{layout-sound}
use Rattle.text.specs.PutLaws.{put_both}
use Rattle.sheet.specs.Sheet.{read_text}
use borrow.Author.Rules.{rules}
use Rattle.sheet.proofs.content.Goals as goal

pub content_of-r-requires : goal.content_of-r-requires
content_of-r-requires c = rw c.layout.ensures (layout-sound c.requires.0)

pub returns : goal.returns
unfolding read_text
returns c = let r = c in
    rw (← (rw r.layout.ensures at r.content_of-r.ensures), ← c.number_told.ensures) (put_both c.put_bytes-p1.ensures c.put_numbers.ensures (omega arith))
