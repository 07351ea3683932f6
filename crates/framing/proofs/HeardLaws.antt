-- A whole request to this node or to all is heard once, at its last byte; so is each frame of a master, as what the master meant,
-- whatever pieces it comes in and whatever ended before it.
use Rattle.std.specs.Prelude.{◌≡◌, true, false, List, [], ◌∷◌, ◌++◌, map, ℕ, ◌^◌, ◌<◌, ℤ, length, take}
use Rattle.std.proofs.Math.Path.{refl}
use Rattle.std.proofs.Common.{ap, ◌∙◌, arith, eq-eqb, get_or-take}
use Rattle.std.proofs.Math.Bool.{and-false}
use Rattle.std.specs.Int.Signed.{mag}
use Rattle.modbus.specs.Crc.{sealed}
use Rattle.modbus.specs.declared.Demand.{Demand}
use Rattle.modbus.specs.declared.Request.TheVariants.{Read, Write}
use Rattle.modbus.specs.Request.{is_unknown, is_mapped, shown_register, replied, silent, asked_of}
use Rattle.modbus.specs.Replies.{read_frame, write_frame}
use Rattle.modbus.proofs.RoundTripLaws.{read_whole, write-whole, read_asked, write-asked, write-asked-of-all}
use Rattle.framing.specs.declared.Collector.{Collector}
use Rattle.framing.specs.Ends.{is_request, is_foreign, stops}
use Rattle.framing.proofs.EndLaws.{request-whole, no-shorter, foreign-same, own-stops}
use Rattle.framing.specs.Collector.{fed, heard}
use Rattle.framing.proofs.PieceLaws.{heard-pieces}
use Rattle.framing.proofs.CollectorLaws.{Holds, stop-heard}

-- A REQUEST TO THIS NODE OR TO ALL IS HEARD AT ITS LAST BYTE
pub own-heard : (node : ℕ) (c : Collector) (f : List ℕ) → Holds c [] → is_foreign node f ≡ false → is_request f ≡ true → (heard node c f ≡ f ∷ []) × Holds (fed node c f) []
own-heard node c f h o e =
    let w = (request-whole f e).1 in
    stop-heard node c f h (omega (arith, w.least)) (omega (arith, w.most)) first o (own-stops node f o ∙ e)
  where
    first : (k : ℕ) → 0 < k → k < length f → stops node (take k f) ≡ false
    first k z n = own-stops node (take k f) (foreign-same node (take k f) f (get_or-take k f 0 0 z) ∙ o) ∙ no-shorter f e k n

-- ---- a master's frames
pub read-is-request : (node r : ℕ) → is_request (read_frame node r) ≡ true
unfolding is_request is_unknown
read-is-request node r = rw (read_whole node r) (unfold read_frame sealed in refl)

pub write-is-request : (node r : ℕ) (z : ℤ) → is_request (write_frame node r z) ≡ true
unfolding is_request is_unknown
write-is-request node r z = rw (write-whole node r z) (unfold write_frame sealed in refl)

-- one frame heard, as what it asks of the node, and nothing held behind it
abbrev HeardAs : ℕ → Collector → List ℕ → Demand → Type 0
HeardAs node c f d = (map (asked_of node) (heard node c f) ≡ d ∷ []) × Holds (fed node c f) []

module _ (node : ℕ) (c : Collector) (h : Holds c []) where
  heard-as : (f : List ℕ) (d : Demand) → is_foreign node f ≡ false → is_request f ≡ true → asked_of node f ≡ d → HeardAs node c f d
  heard-as f d o e a =
      let q = own-heard node c f h o e in
      (ap (map (asked_of node)) q.0 ∙ ap (λ (x : Demand). x ∷ []) a, q.1)

  read-own : (r : ℕ) → is_foreign node (read_frame node r) ≡ false
  unfolding is_foreign read_frame sealed
  read-own r = rw (eq-eqb node node refl, and-false)

  write-own : (r : ℕ) (z : ℤ) → is_foreign node (write_frame node r z) ≡ false
  unfolding is_foreign write_frame sealed
  write-own r z = rw (eq-eqb node node refl, and-false)

  all_own : (r : ℕ) (z : ℤ) → is_foreign node (write_frame 0 r z) ≡ false
  unfolding is_foreign write_frame sealed
  all_own r z = refl

  pub read-heard : (r : ℕ) → (node ≡ 0 → ⊥) → is_mapped r ≡ true → HeardAs node c (read_frame node r) (replied (Read r))
  read-heard r n m = heard-as (read_frame node r) (replied (Read r)) (read-own r) (read-is-request node r) (read_asked node r n m)

  pub write-heard : (r : ℕ) (z : ℤ) → (node ≡ 0 → ⊥) → is_mapped r ≡ true → (r ≡ shown_register → ⊥) → mag z < 2 ^ 31 → HeardAs node c (write_frame node r z) (replied (Write r z))
  write-heard r z n m s k = heard-as (write_frame node r z) (replied (Write r z)) (write-own r z) (write-is-request node r z) (write-asked node r z n m s k)

  pub broadcast-heard : (r : ℕ) (z : ℤ) → is_mapped r ≡ true → (r ≡ shown_register → ⊥) → mag z < 2 ^ 31 → HeardAs node c (write_frame 0 r z) (silent (Write r z))
  broadcast-heard r z m s k = heard-as (write_frame 0 r z) (silent (Write r z)) (all_own r z) (write-is-request 0 r z) (write-asked-of-all node r z m s k)

-- one frame behind another, with no silence between
pub one-behind-another : (node : ℕ) (c : Collector) (f g : List ℕ) → Holds c [] → is_foreign node f ≡ false → is_request f ≡ true → is_foreign node g ≡ false → is_request g ≡ true
    → heard node c (f ++ g) ≡ f ∷ (g ∷ [])
one-behind-another node c f g h o e p d =
    let q = own-heard node c f h o e in
    heard-pieces node c f g ∙ rw (q.0, (own-heard node (fed node c f) g q.1 p d).0)
