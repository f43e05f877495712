-- What the steps of a world ask of the log, the keypoints and the file, over whole runs.
use Rattle.xrf_setup.specs.declared.choice.Landing.{Landing}
use Rattle.xrf_setup.specs.declared.choice.Landing.TheVariants.{All, Nothing, Torn}
use Rattle.xrf_trace.proofs.ByKind.{LandFits}
use Rattle.std.proofs.Common.{true, ◌≡◌, IfSome, List, Option, None, Some, subst, sym, ℕ, ◌∷◌, refl, arith, ◌≤◌}
use Rattle.xrf_base.specs.declared.site.Site.{Site}
use Rattle.xrf_history.specs.Events.{Event}
use Rattle.xrf_history.specs.Restarting.{scan}
use Rattle.xrf_trace.specs.Scenario.{Scen, settings, other}
use Rattle.xrf_trace.specs.declared.entry.Entry.{Entry}
use Rattle.xrf_trace.specs.Jobs.{hist, handed}
use Rattle.xrf_trace.specs.Words.{now}
use Rattle.xrf_trace.specs.declared.entry.Act.{Act}
use Rattle.xrf_trace.proofs.ByKind.{is_quiet, Kinds}
use Rattle.xrf_trace.specs.Entries.{entry, inc_at}
use Rattle.xrf_log_law.specs.Conditions.{ScanFits, MayBeWritten, ReadsSlot, ScansFit, JobScanFits, IsWithin}
use Rattle.xrf_log_law.proofs.ConditionActs.{Fits, fits-after, may-be-written, reads-slot, is-within}
use Rattle.xrf_log_law.proofs.InvariantActs.{before-next}
use Rattle.xrf_log_law.proofs.SitesAfter.{tick-after, OwnAfter, own-after, unless-gone, sites-after, own-other, quiet-after, quiet-other}
use Rattle.xrf_log_law.specs.Invariant.{Invariant}
use Rattle.xrf_log_law.proofs.Tests.{false-true}
use Rattle.xrf_log.specs.Scan.{cleared}
use Rattle.xrf_base.specs.declared.site.Site.TheVariants as site
use Rattle.xrf_setup.specs.declared.choice.Choice.TheVariants as choice
use Rattle.xrf_trace.specs.declared.entry.Act.TheVariants as act
use Rattle.xrf_trace.specs.declared.entry.Land.TheVariants as land

-- the scan of a job that a choice reaches
quiet-fits : (s : Scen) (t : List Entry) (x : Site) (a : Act) (job : Option (List Event)) → is_quiet a ≡ true → IfSome job (JobScanFits s x)
    → IfSome job (λ h. ScanFits s.settings.log (scan (settings s x) (handed s t x (now t) h a ∷ h)))
quiet-fits s t x a None quiet fits = tt
quiet-fits s t x act.Abend (Some h) quiet fits = fits
quiet-fits s t x (act.Reply go) (Some h) quiet fits = fits
quiet-fits s t x (act.Cebt command reply) (Some h) quiet fits = fits
quiet-fits s t x (act.Exit said) (Some h) quiet fits = fits
quiet-fits s t x act.NoAct (Some h) quiet fits = fits
quiet-fits s t x _ (Some h) quiet fits = absurd (cc)

-- an entry
pub record EntryConditions (s : Scen) (t : List Entry) (e : Entry) : Type 0 where
  pub torn : LandFits e.land e.act
  pub within : IsWithin s e.act
  pub scans : ScansFit s (e ∷ t)
  pub written : MayBeWritten s t e.act
  pub reads : ReadsSlot s t e.act

-- a choice that reaches a job writes no slot
quiet-written : (s : Scen) (t : List Entry) (a : Act) → is_quiet a ≡ true → MayBeWritten s t a
quiet-written s t (act.LogClose p) e = false-true e
quiet-written s t (act.LogBody p rec) e = false-true e
quiet-written s t (act.LogOpen p rec) e = false-true e
quiet-written s t (act.KpClose k) e = false-true e
quiet-written s t (act.KpBody k keypoint) e = false-true e
quiet-written s t (act.KpOpen k keypoint) e = false-true e
quiet-written s t _ e = tt

-- nor does it read one
quiet-reads : (s : Scen) (t : List Entry) (a : Act) → is_quiet a ≡ true → ReadsSlot s t a
quiet-reads s t (act.FileRead k) quiet = absurd (cc)
quiet-reads s t _ quiet = tt

-- nor does it touch a data set
quiet-within : (s : Scen) (a : Act) → is_quiet a ≡ true → IsWithin s a
quiet-within s (act.LogRead b) quiet = absurd (cc)
quiet-within s (act.KpRead k) quiet = absurd (cc)
quiet-within s (act.FileRead k) quiet = absurd (cc)
quiet-within s (act.FileWrite unit k value) quiet = absurd (cc)
quiet-within s (act.Undo k before) quiet = absurd (cc)
quiet-within s _ quiet = tt

-- an empty scan fits
empty-fits : (size : ℕ) → 64 ≤ size → ScanFits size (cleared size)
empty-fits size least = record { records = omega arith; block = omega (arith, least); flight = λ e. false-true e }

-- a log has 64 slots at least
scan-least : (s : Scen) {t : List Entry} → Invariant s t → 64 ≤ s.settings.log
scan-least s k = k.scen.limits.log_least

-- a stop without an act tears nothing
none-torn : (cut : Landing) → LandFits (land.Stop cut) act.NoAct
none-torn Nothing = tt
none-torn All = tt
none-torn (Torn bytes) = tt

-- of each kind of entry
pub go-kinds : (s : Scen) (t : List Entry) → Invariant s t → Kinds s t (λ e. EntryConditions s t e)
go-kinds s t k = record {
  tick = record { torn = tt; within = tt; scans = tick k.scans; written = tt; reads = tt };
  confirm = λ n. record { torn = tt; within = tt; scans = confirm n k.scans; written = tt; reads = tt };
  acts = λ x h a l job is fits may.
      (let b = before-next s t x h k job in
      let here : ScanFits s.settings.log (scan (settings s x) h) = subst (λ (o : Option (List Event)). IfSome o (JobScanFits s x)) job (k.scans x) in
      let after : Fits s t x h a = subst (λ (o : Option Act). IfSome o (Fits s t x h)) is (fits-after s t x h _ b here) in
      let own : OwnAfter s t x a l (Some h) (JobScanFits s x) = own-after s t x h a l (JobScanFits s x) is may (unless-gone a (Fits s t x h a) after) here in
      record {
        torn = fits;
        within = subst (λ (o : Option Act). IfSome o (IsWithin s)) is (is-within s t x h _ b here);
        scans =
            sites-after s t x (inc_at a (Some h)) a l (JobScanFits s)
            (subst (λ (o : Option (List Event)). OwnAfter s t x a l o (JobScanFits s x)) (sym job) own)
            (own-other s t x h a (hist s t (other x)) is) (k.scans (other x));
        written = subst (λ (o : Option Act). IfSome o (MayBeWritten s t)) is (may-be-written s t x h _ b);
        reads = subst (λ (o : Option Act). IfSome o (ReadsSlot s t)) is (reads-slot s t x h _ b);
      });
  quiet = λ x i a quiet. record {
    torn = tt;
    within = quiet-within s a quiet;
    scans =
        sites-after s t x i a land.Full (JobScanFits s) (quiet-after s t x a (hist s t x) (JobScanFits s x) quiet
        (quiet-fits s t x a (hist s t x) quiet (k.scans x)))
        (quiet-other a (hist s t (other x)) quiet) (k.scans (other x));
    written = quiet-written s t a quiet;
    reads = quiet-reads s t a quiet;
  };
  stop =
      λ x i cut. record {
        torn = none-torn cut;
        within = tt;
        scans = sites-after s t x i act.NoAct (land.Stop cut) (JobScanFits s) tt refl
            (k.scans (other x));
        written = tt;
        reads = tt;
      };
  active = λ x. record {
    torn = tt;
    within = tt;
    scans = sites-after s t x 0 act.StartActive land.Full (JobScanFits s) (empty-fits s.settings.log (scan-least s k)) refl (k.scans (other x));
    written = tt;
    reads = tt;
  };
  standby = λ x. record {
    torn = tt;
    within = tt;
    scans = sites-after s t x 0 act.StartStandby land.Full (JobScanFits s) (empty-fits s.settings.log (scan-least s k)) refl (k.scans (other x));
    written = tt;
    reads = tt;
  };
}
  where
    tick : ScansFit s t → ScansFit s (entry s t choice.Tick ∷ t)
    tick all site.A = tick-after (hist s t site.A) (JobScanFits s site.A) (all site.A)
    tick all site.B = tick-after (hist s t site.B) (JobScanFits s site.B) (all site.B)

    confirm : (n : ℕ) → ScansFit s t → ScansFit s (entry s t (choice.Confirm n) ∷ t)
    confirm n all site.A = all site.A
    confirm n all site.B = all site.B
