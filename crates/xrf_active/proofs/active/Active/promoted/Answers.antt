use Rattle.std.proofs.Common.{◌≡◌, ◌∙◌, sym, ap, refl, true}
use Rattle.xrf_log.specs.Scan.{Scanned}
use Rattle.xrf_history.specs.Holding.{is_granted}
use Rattle.xrf_history.proofs.Holding.{owner-granted}
use Rattle.xrf_active.proofs.Alternates.{tells_nothing, logs_nothing}
use Rattle.xrf_active.proofs.active.Active.promoted.Goals as goal

pub returns-clause-stands : goal.returns-clause-stands
returns-clause-stands c = λ h s.
    let p = c.args.settings.now in
    let q = tells_nothing h s.was in
    let i = logs_nothing p h s.was in
    let granted : is_granted h ≡ true = owner-granted h s.owner in
    record {
      shared = s.shared;
      rooms = s.sizes;
      owns = s.owner ∙ sym granted;
      starts = λ e. absurd (cc);
      signs_on = λ e. absurd (cc);
      stays = λ e. absurd (cc);
      decides = λ e. absurd (cc);
      reads = λ e. absurd (cc);
      signs_off = sym q.4;
      tells = sym q.6;
      drops = sym q.5;
      drains = rw (s.owner, q.0, q.2) refl;
      sends = q.7;
      terminals = s.terminals;
      takes = s.unscanned ∙ sym i.0;
      scanned = sym (ap (λ (x : Scanned). x.ended) i.0);
      restarted = sym q.1;
      undoes = sym i.1;
      opens = sym i.2;
      keypoint = sym i.3;
      small = i.4;
      none_backed_out = λ e unit. i.5 unit;
      none_opened = λ e. i.2;
      anchored = λ e. i.3 ∙ sym (ap (λ (x : Scanned). x.anchor) i.0);
      backs_out = λ e. rw (i.0, i.2) refl;
      has_scanned = λ e. absurd (cc (q.1));
      has_drained = λ e. absurd (cc (q.1));
      units = λ e. absurd (cc (q.1));
      keys = λ e. absurd (cc (q.1));
      plans = sym i.6;
      rolls = sym i.7;
    }
