-- A telegram built from a position reads back as it, and one that is read is rebuilt exactly if its blanked bits are zero.
-- Paper 01, "Where each check sits", builder. For every sound layout: both formats, every N, B, H, error bit and error level.
use Rattle.std.specs.Prelude.{None, ◌≡◌, Bool, true, ◌↔◌, ℕ, ◌<◌}
use Rattle.std.proofs.Common.{sym, ap, ◌∙◌, subst}
use Rattle.ssi.specs.declared.Layout.{Layout}
use Rattle.ssi.specs.declared.Built.{Built}
use Rattle.ssi.specs.Sound.{Sound, error_bit}
use Rattle.ssi.specs.Telegram.{modulus, accepted, position_of, error_reported, content_of}
use Rattle.ssi.specs.Builder.{built_of, BlankZero}
use Rattle.ssi.proofs.SoundLaws.{position-lt}
use Rattle.ssi.proofs.BuildLaws.{built-is, reads-built, built-blank, rebuilt, reported-set-up}

-- a position below M, with an error only where an error bit is set up, is built, and reads back as it was asked for
pub built-reads-back : (l : Layout) → Sound l → (p : ℕ) (asked : Bool) → p < modulus l → (asked ≡ true → 0 < error_bit l)
    → ((built_of l p asked).refusal ≡ None) × (content_of l (built_of l p asked).telegram ≡ record { refusal = None; position = p; error = asked })
built-reads-back l s p asked h m =
    let is = built-is l p asked h m in
    (ap (λ (b : Built). b.refusal) is, ap (λ (b : Built). content_of l b.telegram) is ∙ reads-built l s p asked h m)

-- an accepted telegram is built again from its position and its error exactly if its blanked bits are zero
pub read-is-rebuilt : (l : Layout) → Sound l → (t : ℕ) → accepted l t ≡ true
    → (built_of l (position_of l t) (error_reported l t) ≡ record { refusal = None; telegram = t }) ↔ BlankZero l t
read-is-rebuilt l s t a =
    let p = position_of l t in
    let asked = error_reported l t in
    let is = built-is l p asked (position-lt l t) (reported-set-up l t) in (
      λ e. subst (BlankZero l) (ap (λ (b : Built). b.telegram) (sym is ∙ e)) (built-blank l s p asked (position-lt l t)),
      λ z. is ∙ rw (rebuilt l s t a z),
    )
