-- THE SERVICE SCREEN holds of every run. What each event keeps is that the record is that of the codes driven since the last clear, all of them within the ends of the
-- format: there drives compare as codes do, so bringing the record up to date takes one more code (`updated-codes` of driverecord). Paper 02, K6. Assumes nothing.
use Rattle.std.specs.Prelude.{◌≡◌, Bool, cond, ℕ, ℤ, Float}
use Rattle.std.proofs.Math.Path.{refl, sym}
use Rattle.std.proofs.Common.{ap, ◌∙◌, true≢false}
use Rattle.std.proofs.Math.Bool.{true, false}
use mathlib.Core.List.{List, [], ◌∷◌, ◌++◌}
use Rattle.std.proofs.Math.Logic.{inl}
use Rattle.std.proofs.Math.Dec.{T}
use Rattle.analog.specs.declared.Drive.{Drive}
use Rattle.analog.specs.declared.Drive.TheVariants.{Off}
use Rattle.analog.specs.AnalogCode.{CodeFits}
use Rattle.analog.specs.Drives.{float_of, drive_of, CodeDrive}
use Rattle.driverecord.specs.declared.DriveRecord.{DriveRecord}
use Rattle.driverecord.proofs.CodeLaws.{cleared-there, on-present, updated-codes, driven-fits, emptied-codes}
use Rattle.driverecord.specs.Codes.{driven_by, record_of}
use Rattle.driverecord.specs.DriveRecord.{is_on, present_of, updated_of}
use Rattle.driverecord.specs.Least.{Among, Each}
use Rattle.driverecord.specs.LeastLaws.{among-between}
use Rattle.events.specs.declared.Event.{Event}
use Rattle.events.specs.declared.Event.TheVariants.{Telegram, Levels, Tick}
use Rattle.panel.specs.Step.{unasked, answer_of, on_telegram, on_levels, step_of}
use Rattle.reading.specs.Reading.{no_halves}
use Rattle.runs.proofs.Demand3Laws.{kept_run}
use Rattle.runs.specs.KeptLaws.{Kept, kept_fresh, kept_step}
use Rattle.runs.specs.Run.{run_of, last_answer}
use Rattle.runs.proofs.RunLaws.{answer-own, step-own, last-state, last-own, own-drive}
use Rattle.settings.specs.Settings.{span_of}
use Rattle.state.specs.declared.State.{State}
use Rattle.state.specs.Refusal.{no_note}
use Rattle.state.specs.State.{fresh_of}
use Rattle.servicescreen.proofs.EventLaws.{ends_so}
use Rattle.servicescreen.specs.ServiceScreen.{accepted, clears, at_the_end, codes_by, codes_from, codes_of, Screened}

-- ---- one event

-- a refused event leaves the state
refused-left : (s : State) (e : Event) → accepted s e ≡ false → (step_of s e).state ≡ s
unfolding accepted step_of on_telegram on_levels answer_of
refused-left s (Telegram w) e = rw e
refused-left s (Levels l) e = rw e
refused-left s (Tick ms) e = absurd (true≢false e)

module _ (format : ℕ) where
  -- the record of codes at the end of an event
  end-codes : (c : Bool) (p : Float) (cs : List ℤ) (d : Drive) → at_the_end c (record_of format p cs) d ≡ updated_of (record_of format p (cond c [] cs)) d
  unfolding at_the_end
  end-codes true p cs d = sym (cleared-there (record_of format p cs) d) ∙ rw (emptied-codes format p cs)
  end-codes false p cs d = refl

  cleared-fits : (c : Bool) (cs : List ℤ) → Each (CodeFits format) cs → Each (CodeFits format) (cond c [] cs)
  cleared-fits true cs k = tt
  cleared-fits false cs k = k

  -- a code that is driven is the newest
  newest : (d : Drive) (code : ℤ) (cs : List ℤ) → T (is_on d) → Among code (driven_by d code cs)
  unfolding driven_by
  newest d code cs = go (is_on d)
    where
      go : (b : Bool) → T b → Among code (cond b (code ∷ cs) cs)
      go true y = inl refl
      go false y = absurd y

-- ---- what each event keeps

module _ (t : List ℤ) where
  abbrev F : ℕ
  F = (span_of t).format

  record Recorded (s : State) (cs : List ℤ) : Type 0 where
    told : s.live.driven ≡ record_of F (present_of s.live.reading.drive) cs
    fits : Each (CodeFits F) cs
    among : T (is_on s.live.reading.drive) → Among s.live.reading.code cs

  recorded-fresh : Recorded (fresh_of t) []
  unfolding fresh_of record_of
  recorded-fresh = record { told = refl; fits = tt; among = λ n. absurd n }

  recorded-step : {s : State} {cs : List ℤ} → Kept t s → Recorded s cs → (e : Event) → Recorded (step_of s e).state (codes_by (accepted s e) (clears s e) (step_of s e) cs)
  unfolding codes_by
  recorded-step {s} {cs} k r e = go (accepted s e) refl
    where
      u : State
      u = (step_of s e).state

      d : Drive
      d = u.live.reading.drive

      own : (step_of s e).drive ≡ d
      own = own-drive (step-own s e)

      c : ℤ
      c = u.live.reading.code

      kept : List ℤ
      kept = cond (clears s e) [] cs

      k' : Kept t u
      k' = kept_step t k e

      -- accepted, it ends with one more code
      told : accepted s e ≡ true → u.live.driven ≡ record_of F (present_of d) (driven_by d c kept)
      told y =
          ends_so s e ∙ rw (y, own)
          (ap (λ (x : DriveRecord). at_the_end (clears s e) x d) r.told
          ∙ end-codes F (clears s e) (present_of s.live.reading.drive) cs d
          ∙ updated-codes F (present_of s.live.reading.drive) c kept d k'.drive (cleared-fits F (clears s e) cs r.fits))

      go : (b : Bool) → accepted s e ≡ b → Recorded u (cond b (driven_by (step_of s e).drive c kept) cs)
      go false n = rw (refused-left s e n) r
      go true y =
          rw own
          (record {
            told = told y;
            fits = driven-fits F c kept d k'.drive.fits (cleared-fits F (clears s e) cs r.fits);
            among = newest F d c kept;
          })

  recorded-run : {s : State} {cs : List ℤ} → Kept t s → Recorded s cs → (es : List Event) → Recorded (run_of s es) (codes_from s cs es)
  unfolding run_of codes_from
  recorded-run k r [] = r
  recorded-run {s = s} {cs = cs} k r (e ∷ es) =
      recorded-run {s = (step_of s e).state} {cs = codes_by (accepted s e) (clears s e) (step_of s e) cs} (kept_step t k e) (recorded-step k r e) es

-- the drive of a code that is on is the code's
on-drive : (format : ℕ) (code : ℤ) (d : Drive) → CodeDrive format code d → T (is_on d) → present_of d ≡ float_of format code
on-drive format code d w = rw w.is (go w.on)
  where
    go : (b : Bool) → T (is_on (cond b (drive_of format code) Off)) → present_of (cond b (drive_of format code) Off) ≡ float_of format code
    go true y = on-present format code
    go false y = absurd y

-- the last answer of a run carries the state in which the run ends, and its drive
last_end : (t : List ℤ) (es : List Event) → (last_answer t es).state ≡ run_of (fresh_of t) es
unfolding answer_of
last_end t es = last-state (unasked (fresh_of t)) es

last-drive : (t : List ℤ) (es : List Event) → (last_answer t es).drive ≡ (last_answer t es).state.live.reading.drive
unfolding answer_of
last-drive t es = own-drive (last-own (unasked (fresh_of t)) es (answer-own (fresh_of t) no_note no_halves))

-- THE SERVICE SCREEN
pub screened : Screened
screened t es =
    let k = kept_run (kept_fresh t) es in
    let r = recorded-run t (kept_fresh t) (recorded-fresh t) es in
    record {
      told = rw (last-drive t es, last_end t es) r.told;
      present = rw (last-drive t es, last_end t es) (on-drive (span_of t).format _ _ k.drive);
      driven = rw (last-drive t es, last_end t es) r.among;
      between = rw (last-drive t es, last_end t es) (λ y. among-between (run_of (fresh_of t) es).live.reading.code (codes_of t es) (r.among y));
    }

-- ---- since the last clear

-- after an accepted event with a clear, nothing of the codes before it matters
pub cleared-forgets : (s : State) (cs : List ℤ) (e : Event) (es : List Event) → accepted s e ≡ true → clears s e ≡ true → codes_from s cs (e ∷ es) ≡ codes_from s [] (e ∷ es)
unfolding codes_from codes_by
cleared-forgets s cs e es y c = rw (y, c)

-- and a list of events goes on where the one before it ends
pub codes-run : (s : State) (cs : List ℤ) (ds es : List Event) → codes_from s cs (ds ++ es) ≡ codes_from (run_of s ds) (codes_from s cs ds) es
unfolding codes_from run_of
codes-run s cs [] es = refl
codes-run s cs (d ∷ ds) es = codes-run (step_of s d).state (codes_by (accepted s d) (clears s d) (step_of s d) cs) ds es
