-- What Promise claims: the words stored are the words turned, the rest stays, storing again brings the bytes back, and pieces of whole groups may be stored by themselves.
use Rattle.std.specs.Prelude.{◌≡◌, refl, List, [], ◌∷◌, ◌++◌, ℕ, zero, suc, ◌+◌, ◌-◌, ◌*◌, ◌/◌, ◌^◌, ◌≤◌, ◌<◌, length, get_or, take, drop}
use Rattle.std.proofs.Common.{sym, ap, ap₂, ◌∙◌, subst, append-nil, not-suc-le-zero, le_of_suc-le-suc, suc-mul, arith, length-append, length-drop, take-append-drop, length-take-le, take_at, drop_at}
use Rattle.bitplanes.specs.Turned.{turned_group, in_groups}
use Rattle.bitplanes.proofs.PlaneLaws.{planes-length, group-lt, group-back}
use Rattle.bitplanes.proofs.GroupLaws.{Keeps, groups-length, groups-rest, groups-split}
use Rattle.events.specs.Bytes.{words_in, bytes_of, AllBytes}
use Rattle.events.proofs.WordBytesLaws.{bytes-length, bytes-words, words-bytes, words_append, words_count, words_small}
use Rattle.events.specs.Written.{AllWords}
use Rattle.recorder.specs.Recorded.{turned_bytes, stored, in_pieces}
use Rattle.recorder.specs.Promise.{LengthKept, WordsTurned, RestKept, BytesBack, PiecesJoined}

-- ---- one group
pub bytes-keep : Keeps 128 turned_bytes
bytes-keep g l = bytes-length (turned_group (words_in g)) ∙ ap (λ (n : ℕ). 4 * n) (planes-length 32 0 (words_in g))

pub group-words : (g : List ℕ) → length g ≡ 128 → length (words_in g) ≡ 32
group-words g l = words_count g ∙ ap (λ (n : ℕ). n / 4) l

-- words of 32 bits, one after the other and at each place
all_small : (ws : List ℕ) → ((i : ℕ) → i < length ws → get_or ws i 0 < 2 ^ 32) → AllWords ws
all_small [] h = tt
all_small (w ∷ ws) h = (h 0 (omega arith), all_small ws (λ i l. h (suc i) (omega arith)))

small_at : (ws : List ℕ) → AllWords ws → (i : ℕ) → i < length ws → get_or ws i 0 < 2 ^ 32
small_at [] a i h = absurd (not-suc-le-zero h)
small_at (w ∷ ws) a zero h = a.0
small_at (w ∷ ws) a (suc i) h = small_at ws a.1 i (le_of_suc-le-suc h)

-- the planes of a group are words of 32 bits
planes-small : (ts : List ℕ) → length ts ≡ 32 → AllWords (turned_group ts)
planes-small ts l = all_small (turned_group ts) (λ i h. group-lt 32 i ts l (subst (λ (n : ℕ). i < n) (planes-length 32 0 ts) h))

-- they are read behind the group as they are, and what follows by itself
group-read : (g rest : List ℕ) → length g ≡ 128 → words_in (turned_bytes g ++ rest) ≡ turned_group (words_in g) ++ words_in rest
group-read g rest l = bytes-words (turned_group (words_in g)) rest (planes-small (words_in g) (group-words g l))

none : (ws : List ℕ) → ws ++ words_in [] ≡ ws
unfolding words_in
none ws = append-nil ws

group-again : (g : List ℕ) → length g ≡ 128 → AllBytes g → turned_bytes (turned_bytes g) ≡ g
group-again g l a =
    let w : length (words_in g) ≡ 32 = group-words g l in
    ap (λ (x : List ℕ). bytes_of (turned_group (words_in x))) (sym (append-nil (turned_bytes g)))
    ∙ ap (λ (ws : List ℕ). bytes_of (turned_group ws)) (group-read g [] l ∙ none (turned_group (words_in g)))
    ∙ ap bytes_of (group-back 32 (words_in g) w (λ i h. small_at (words_in g) (words_small g a) i (subst (λ (n : ℕ). i < n) (sym w) h)))
    ∙ words-bytes 32 g l a

-- ---- bytes of any length
pub length-kept : LengthKept
length-kept bytes = groups-length 128 turned_bytes bytes-keep (length bytes / 128) bytes (omega arith)

pub rest-kept : RestKept
rest-kept bytes = groups-rest 128 turned_bytes bytes-keep (length bytes / 128) bytes (omega arith)

module _ (n : ℕ) (bytes : List ℕ) (h : suc n * 128 ≤ length bytes) where
  first-long : length (take 128 bytes) ≡ 128
  first-long = length-take-le 128 bytes (omega arith)

  others : n * 128 ≤ length (drop 128 bytes)
  others = subst (λ (x : ℕ). n * 128 ≤ x) (sym (length-drop 128 bytes)) (omega arith)

  words-split : words_in bytes ≡ words_in (take 128 bytes) ++ words_in (drop 128 bytes)
  words-split = ap words_in (sym (take-append-drop 128 bytes)) ∙ words_append 32 (take 128 bytes) (drop 128 bytes) first-long

  words-first : take 32 (words_in bytes) ≡ words_in (take 128 bytes)
  words-first = ap (take 32) words-split ∙ take_at (words_in (take 128 bytes)) (words_in (drop 128 bytes)) 32 (group-words (take 128 bytes) first-long)

  words-others : drop 32 (words_in bytes) ≡ words_in (drop 128 bytes)
  words-others = ap (drop 32) words-split ∙ drop_at (words_in (take 128 bytes)) (words_in (drop 128 bytes)) 32 (group-words (take 128 bytes) first-long)

in_words : (n : ℕ) (bytes : List ℕ) → n * 128 ≤ length bytes → words_in (in_groups 128 turned_bytes n bytes) ≡ in_groups 32 turned_group n (words_in bytes)
unfolding in_groups
in_words zero bytes h = refl
in_words (suc n) bytes h =
    group-read (take 128 bytes) (in_groups 128 turned_bytes n (drop 128 bytes)) (first-long n bytes h)
    ∙ ap (λ (x : List ℕ). turned_group (words_in (take 128 bytes)) ++ x) (in_words n (drop 128 bytes) (others n bytes h))
    ∙ ap₂ (λ (x y : List ℕ). turned_group x ++ in_groups 32 turned_group n y) (sym (words-first n bytes h)) (sym (words-others n bytes h))

pub words-turned : WordsTurned
words-turned bytes =
    let c : length (words_in bytes) ≡ length bytes / 4 = words_count bytes in
    in_words (length bytes / 128) bytes (omega arith) ∙ ap (λ (n : ℕ). in_groups 32 turned_group n (words_in bytes)) (omega arith)

all_take : (n : ℕ) (bytes : List ℕ) → AllBytes bytes → AllBytes (take n bytes)
all_take zero bytes a = tt
all_take (suc n) [] a = tt
all_take (suc n) (b ∷ bytes) a = (a.0, all_take n bytes a.1)

all_drop : (n : ℕ) (bytes : List ℕ) → AllBytes bytes → AllBytes (drop n bytes)
all_drop zero bytes a = a
all_drop (suc n) [] a = tt
all_drop (suc n) (b ∷ bytes) a = all_drop n bytes a.1

groups-again : (n : ℕ) (bytes : List ℕ) → n * 128 ≤ length bytes → AllBytes bytes → in_groups 128 turned_bytes n (in_groups 128 turned_bytes n bytes) ≡ bytes
unfolding in_groups
groups-again zero bytes h a = refl
groups-again (suc n) bytes h a =
    let A : List ℕ = turned_bytes (take 128 bytes) in
    let B : List ℕ = in_groups 128 turned_bytes n (drop 128 bytes) in
    let l : length A ≡ 128 = bytes-keep (take 128 bytes) (first-long n bytes h) in
    ap₂ (λ (x y : List ℕ). turned_bytes x ++ in_groups 128 turned_bytes n y) (take_at A B 128 l) (drop_at A B 128 l)
    ∙ ap₂ (λ (x y : List ℕ). x ++ y)
    (group-again (take 128 bytes) (first-long n bytes h) (all_take 128 bytes a)) (groups-again n (drop 128 bytes) (others n bytes h) (all_drop 128 bytes a))
    ∙ take-append-drop 128 bytes

-- THE LAW: storing what was stored brings the bytes back
pub bytes_back : BytesBack
bytes_back bytes a =
    ap (λ (n : ℕ). in_groups 128 turned_bytes (n / 128) (stored bytes)) (length-kept bytes) ∙ groups-again (length bytes / 128) bytes (omega arith) a

-- ---- pieces of whole groups
stored-append : (k : ℕ) (piece rest : List ℕ) → length piece ≡ k * 128 → stored (piece ++ rest) ≡ stored piece ++ stored rest
stored-append k piece rest l =
    let j : length (piece ++ rest) ≡ length piece + length rest = length-append piece rest in
    let whole : length (piece ++ rest) / 128 ≡ k + length rest / 128 = omega arith in
    let own : k ≡ length piece / 128 = omega arith in
    ap (λ (n : ℕ). in_groups 128 turned_bytes n (piece ++ rest)) whole ∙ groups-split 128 turned_bytes k (length rest / 128) piece rest l
    ∙ ap (λ (n : ℕ). in_groups 128 turned_bytes n piece ++ stored rest) own

pub pieces-joined : PiecesJoined
unfolding in_pieces
pieces-joined k zero bytes h = refl
pieces-joined k (suc n) bytes h =
    let size : ℕ = k * 128 in
    let m : suc n * size ≡ n * size + size = suc-mul n size in
    let d : length (drop size bytes) ≡ length bytes - size = length-drop size bytes in
    ap (λ (x : List ℕ). stored (take size bytes) ++ x) (pieces-joined k n (drop size bytes) (omega arith))
    ∙ sym (stored-append k (take size bytes) (drop size bytes) (length-take-le size bytes (omega arith)))
    ∙ ap stored (take-append-drop size bytes)
