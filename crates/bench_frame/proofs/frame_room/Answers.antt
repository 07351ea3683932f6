-- `bench_frame::frame_room` meets its contract: an array of so many bytes has that length. Given by hand, since a search would count the bytes one by one.
use Rattle.std.proofs.Common.{ℕ, sym}
use Rattle.std.proofs.lemmas.List.{length-replicate}
use Rattle.bench_frame.proofs.frame_room.Goals as goal

pub returns : goal.returns
returns c = sym (length-replicate {0} {A = ℕ} 524288 0)
