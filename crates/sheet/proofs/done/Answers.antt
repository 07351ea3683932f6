-- `sheet::done` meets its contract: each word has its function.
use Rattle.sheet.specs.Sheet.{after_word, word_text}
use borrow.Author.Rules.{rules}
use Rattle.sheet.proofs.done.Goals as goal

pub returns-in-Plain : goal.returns-in-Plain
unfolding after_word word_text
returns-in-Plain c = let x = c in
    let told = x.in-Plain.is in
    record {
      is = rw told x.plain.ensures.is;
      text = rw told x.plain.ensures.text;
    }

pub returns-in-Heading : goal.returns-in-Heading
unfolding after_word word_text
returns-in-Heading c = let x = c in
    let told = x.in-Heading.is in
    record {
      is = rw told x.heading.ensures.is;
      text = rw told x.heading.ensures.text;
    }

pub returns-in-Log : goal.returns-in-Log
unfolding after_word word_text
returns-in-Log c = let x = c in
    let told = x.in-Log.is in
    record {
      is = rw told x.log.ensures.is;
      text = rw told x.log.ensures.text;
    }

pub returns-in-End : goal.returns-in-End
unfolding after_word word_text
returns-in-End c = let x = c in
    let told = x.in-End.is in
    record {
      is = rw told x.last.ensures.is;
      text = rw told x.last.ensures.text;
    }

pub returns-in-Cut : goal.returns-in-Cut
unfolding after_word word_text
returns-in-Cut c = let x = c in
    let told = x.in-Cut.is in
    record {
      is = rw told x.cut.ensures.is;
      text = rw told x.cut.ensures.text;
    }

pub returns-in-Extremes : goal.returns-in-Extremes
unfolding after_word word_text
returns-in-Extremes c = let x = c in
    let told = x.in-Extremes.is in
    record {
      is = rw told;
      text = rw (told, ← x.extremes_of.ensures) x.extremes.ensures;
    }

pub returns-in-Asked : goal.returns-in-Asked
unfolding after_word word_text
returns-in-Asked c = let x = c in
    let told = x.in-Asked.is in
    record {
      is = rw told;
      text = rw told x.asked.ensures;
    }
