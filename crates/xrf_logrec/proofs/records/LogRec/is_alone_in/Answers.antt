-- Only what stands behind the fields of a record is tested.
use Rattle.std.proofs.Common.{drop, sym, ◌∙◌, ap}
use Rattle.xrf_base.specs.Zeros.{are_zeros}
use Rattle.xrf_logrec.proofs.TailLaws.{fields_length, spelled_tail}
use Rattle.xrf_logrec.proofs.records.LogRec.is_alone_in.Goals as goal

pub returns-in-Put : goal.returns-in-Put
returns-in-Put c =
    c.is_zero_from.ensures ∙ ap (λ r. are_zeros (drop (fields_length r) c.args.body.now)) (sym c.in-Put.is) ∙ sym (spelled_tail c.args.body.now c.args.self.now c.told-body c.fits-body c.requires)

pub returns-in-Commit : goal.returns-in-Commit
returns-in-Commit c =
    c.is_zero_from-in-Commit.ensures ∙ ap (λ r. are_zeros (drop (fields_length r) c.args.body.now)) (sym c.in-Commit.is) ∙ sym (spelled_tail c.args.body.now c.args.self.now c.told-body c.fits-body c.requires)

pub returns-in-Backout : goal.returns-in-Backout
returns-in-Backout c =
    c.is_zero_from-in-Backout.ensures ∙ ap (λ r. are_zeros (drop (fields_length r) c.args.body.now)) (sym c.in-Backout.is) ∙ sym (spelled_tail c.args.body.now c.args.self.now c.told-body c.fits-body c.requires)
