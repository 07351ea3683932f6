-- THE ROUND TRIP: what a master's frame asks of its node is what the master meant, negative words too.
use Rattle.std.specs.Prelude.{◌≡◌, refl, true, false, List, ◌∷◌, ◌++◌, ℕ, ◌+◌, ◌-◌, ◌/◌, ◌%◌, ◌^◌, ◌≤◌, ◌<◌, ℤ, length, get_or}
use Rattle.std.proofs.Common.{sym, ap, ap₂, ◌∙◌, arith, eq-eqb, ne_eqb, le-leb, length-append, take_at, get_or-append-add}
use Rattle.std.specs.Int.Signed.{mag}
use Rattle.modbus.specs.Crc.{crc_of, crc_bytes, sealed}
use Rattle.modbus.specs.Words.{number, number_bytes, word_bytes, word_from}
use Rattle.modbus.proofs.WordLaws.{number-back, word_back}
use Rattle.modbus.specs.declared.Exception.TheVariants.{Address}
use Rattle.modbus.specs.declared.Request.TheVariants.{Broken, Ignored, Exception, Read, Write}
use Rattle.modbus.specs.Request.{address_in, read_function, write_function, is_write, is_misfit, crc_right, is_broken, shown_register, is_mapped, is_unknown, wrong_amount, wrong_start, request_in, replied, silent, asked_of}
use Rattle.modbus.specs.Replies.{read_frame, write_frame, read_reply}

-- WHAT WAS SEALED PASSES THE TEST
pub sealed-right : (l : List ℕ) → crc_right (sealed l) ≡ true
unfolding crc_right sealed
sealed-right l =
    let c = crc_of l in
    let s = l ++ crc_bytes c in
    let n : length s ≡ length l + 2 = length-append l (crc_bytes c) in
    let first : length s - 2 ≡ length l + 0 = omega arith in
    let second : length s - 1 ≡ length l + 1 = omega arith in
    let front : length l ≡ length s - 2 = omega arith in
    let low : get_or s (length s - 2) 0 ≡ c % 256 = ap (λ (i : ℕ). get_or s i 0) first ∙ get_or-append-add l (crc_bytes c) 0 0 in
    let high : get_or s (length s - 1) 0 ≡ c / 256 = ap (λ (i : ℕ). get_or s i 0) second ∙ get_or-append-add l (crc_bytes c) 1 0 in
    let long : 2 ≤ length s = omega arith in
    rw (le-leb 2 (length s) long) (eq-eqb _ _ (ap₂ number high low ∙ number-back c ∙ ap crc_of (sym (take_at l (crc_bytes c) (length s - 2) front))))

-- ---- whom a frame is for
pub broken-asked : (node : ℕ) (f : List ℕ) → is_broken f ≡ true → asked_of node f ≡ silent Broken
unfolding asked_of
broken-asked node f e = rw e

pub to-node : (node : ℕ) (f : List ℕ) → is_broken f ≡ false → address_in f ≡ node → (node ≡ 0 → ⊥) → asked_of node f ≡ replied (request_in f)
unfolding asked_of
to-node node f s e n = rw (s, e, ne_eqb node 0 n, eq-eqb node node refl)

pub write-to-all : (node : ℕ) (f : List ℕ) → is_broken f ≡ false → address_in f ≡ 0 → is_write f ≡ true → asked_of node f ≡ silent (request_in f)
unfolding asked_of
write-to-all node f s e w = rw (s, e, w)

pub other-to-all : (node : ℕ) (f : List ℕ) → is_broken f ≡ false → address_in f ≡ 0 → is_write f ≡ false → asked_of node f ≡ silent Ignored
unfolding asked_of
other-to-all node f s e w = rw (s, e, w)

pub to-other : (node : ℕ) (f : List ℕ) → is_broken f ≡ false → (address_in f ≡ 0 → ⊥) → (address_in f ≡ node → ⊥) → asked_of node f ≡ silent Ignored
unfolding asked_of
to-other node f s z n = rw (s, ne_eqb (address_in f) 0 z, ne_eqb (address_in f) node n)

-- ---- a read
pub read_whole : (node r : ℕ) → is_broken (read_frame node r) ≡ false
unfolding is_broken is_misfit read_frame sealed
read_whole node r = rw (sealed-right (node ∷ (read_function ∷ (number_bytes r ++ number_bytes 2))))

read-request : (node r : ℕ) → is_mapped r ≡ true → request_in (read_frame node r) ≡ Read r
unfolding request_in read_frame sealed is_unknown wrong_amount wrong_start
read-request node r m = rw (number-back r, m)

pub read_asked : (node r : ℕ) → (node ≡ 0 → ⊥) → is_mapped r ≡ true → asked_of node (read_frame node r) ≡ replied (Read r)
unfolding read_frame sealed
read_asked node r n m = to-node node (read_frame node r) (read_whole node r) refl n ∙ ap replied (read-request node r m)

-- ---- a write
pub write-whole : (node r : ℕ) (z : ℤ) → is_broken (write_frame node r z) ≡ false
unfolding is_broken is_misfit write_frame sealed
write-whole node r z = rw (sealed-right (node ∷ (write_function ∷ (number_bytes r ++ (number_bytes 2 ++ (4 ∷ word_bytes z))))))

write-request : (node r : ℕ) (z : ℤ) → is_mapped r ≡ true → (r ≡ shown_register → ⊥) → mag z < 2 ^ 31 → request_in (write_frame node r z) ≡ Write r z
unfolding request_in write_frame sealed is_unknown wrong_amount wrong_start
write-request node r z m n h = rw (number-back r, m, ne_eqb r shown_register n, word_back z h)

pub write-asked : (node r : ℕ) (z : ℤ) → (node ≡ 0 → ⊥) → is_mapped r ≡ true → (r ≡ shown_register → ⊥) → mag z < 2 ^ 31
    → asked_of node (write_frame node r z) ≡ replied (Write r z)
unfolding write_frame sealed
write-asked node r z n m s h = to-node node (write_frame node r z) (write-whole node r z) refl n ∙ ap replied (write-request node r z m s h)

-- to all nodes: carried out and not answered
pub write-asked-of-all : (node r : ℕ) (z : ℤ) → is_mapped r ≡ true → (r ≡ shown_register → ⊥) → mag z < 2 ^ 31 → asked_of node (write_frame 0 r z) ≡ silent (Write r z)
unfolding write_frame sealed
write-asked-of-all node r z m s h = write-to-all node (write_frame 0 r z) (write-whole 0 r z) refl refl ∙ ap silent (write-request 0 r z m s h)

-- to the shown value: refused
pub shown-write-refused : (node : ℕ) (z : ℤ) → (node ≡ 0 → ⊥) → asked_of node (write_frame node shown_register z) ≡ replied (Exception 16 Address)
unfolding write_frame sealed request_in is_unknown wrong_amount wrong_start is_mapped
shown-write-refused node z n = to-node node (write_frame node shown_register z) (write-whole node shown_register z) refl n

-- ---- the reply's word, read by the master
pub reply-back : (node : ℕ) (z : ℤ) → mag z < 2 ^ 31
    → let l = read_reply node z in (crc_right l ≡ true) × (word_from (number (get_or l 3 0) (get_or l 4 0)) (number (get_or l 5 0) (get_or l 6 0)) ≡ z)
unfolding read_reply sealed
reply-back node z h = (sealed-right (node ∷ (read_function ∷ (4 ∷ word_bytes z))), word_back z h)
