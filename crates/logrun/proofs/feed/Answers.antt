-- `logrun::feed` meets its contract: the words are run on a copy of the table, and the progress is put together again.
use Rattle.logrun.proofs.feed.Goals as goal

pub words-r-requires : goal.words-r-requires
words-r-requires c = let start = c in
    (rw c.course_of.ensures start.requires.0, start.requires.1)

pub returns : goal.returns
returns c = let w = c.words-r.ensures in
    let e = c.course_of.ensures in
    record {
      is = (rw (c.progress_of.ensures, w.is, e));
      text = rw e at w.text;
      ready = rw c.progress_of.ensures w.ready;
      within = w.within;
    }
