-- The images, one data set after the other.
use Rattle.std.proofs.Common.{◌++◌, ℕ, List, codes, ap, ◌∙◌, sym, subst, length}
use Rattle.xrf_devices.specs.Standing.{FileIs}
use Rattle.xrf_report.specs.Fits.{SlotsFit, PiecesFit}
use Rattle.xrf_report.specs.Images.{all_pieces, ctl_bytes, msg_signals, slots_text, records_text}
use Rattle.xrf_report.proofs.ImageLaws.{grown-by, on-ok, ctl-is, signals-are}
use Rattle.xrf_trace.specs.Devices.{message_slot, log_slot, key_slot, image}
use Rattle.xrf_report.proofs.images.put_images.Goals as goal

pub returns-clause-text : goal.returns-clause-text
returns-clause-text c t is =
    let s = c.args.scenario.now in
    let ctl = all_pieces (codes "CTL") (ctl_bytes t) in
    let signals = all_pieces (codes "MSG") (msg_signals t) in
    let messages = slots_text (codes "MSG") 128 (message_slot t) s.settings.ring in
    let log = slots_text (codes "LOG") 0 (log_slot s t) s.settings.log in
    let file = records_text (image s t) s.settings.file in
    let key = slots_text (codes "KEY") 0 (key_slot t) 2 in
    let file-is : FileIs c.file.result c.args.sets.now.file (image s t) = subst (λ (n : ℕ). FileIs n c.args.sets.now.file (image s t)) (sym c.file.ensures.file) is.file in
    let start = c.args.out.now.items in
    let one = c.in_ok-put_control_images.ensures s t is in
    let two = grown-by start ctl signals (c.in_ok-put_signal_images.ensures s t is) one in
    let three = grown-by start (ctl ++ signals) messages (c.in_ok-put_slots.ensures.text (message_slot t) is.messages
    ∙ ap (λ (n : ℕ). c.put_signal_images.new.out.items ++ slots_text (codes "MSG") 128 (message_slot t) n) c.ring.ensures.ring) two in
    let four = grown-by start (ctl ++ signals ++ messages) log (c.in_ok-put_slots-2.ensures.text (log_slot s t) is.log
    ∙ ap (λ (n : ℕ). c.put_slots.new.out.items ++ slots_text (codes "LOG") 0 (log_slot s t) n) c.log.ensures.log) three in
    let five = grown-by start (ctl ++ signals ++ messages ++ log) file (c.in_ok-put_records.ensures.text (image s t) file-is
    ∙ ap (λ (n : ℕ). c.put_slots-2.new.out.items ++ records_text (image s t) n) c.file.ensures.file) four in
    on-ok c.put_slots-3.result (λ grew. grown-by start (ctl ++ signals ++ messages ++ log ++ file) key grew five)
    (c.put_slots-3.ensures.text (key_slot t) is.key)

pub returns-clause-fits : goal.returns-clause-fits
returns-clause-fits c t is =
    let s = c.args.scenario.now in
    let file-is : FileIs c.file.result c.args.sets.now.file (image s t) = subst (λ (n : ℕ). FileIs n c.args.sets.now.file (image s t)) (sym c.file.ensures.file) is.file in
    let ctl = ap length (sym (ctl-is c.args.sets.now s t is)) ∙ is.ctl_size in
    let signals = ap length (sym (signals-are c.args.sets.now s t is)) ∙ is.signals_size in
    let messages = subst (λ (n : ℕ). SlotsFit (message_slot t) n) c.ring.ensures.ring (c.in_ok-put_slots.ensures.fits (message_slot t) is.messages) in
    let log = subst (λ (n : ℕ). SlotsFit (log_slot s t) n) c.log.ensures.log (c.in_ok-put_slots-2.ensures.fits (log_slot s t) is.log) in
    let file = subst (λ (n : ℕ). PiecesFit (image s t) n) c.file.ensures.file (c.in_ok-put_records.ensures.fits (image s t) file-is) in
    on-ok c.put_slots-3.result (λ (key : SlotsFit (key_slot t) 2). record { ctl = ctl; signals = signals; messages = messages; log = log; file = file; key = key })
    (c.put_slots-3.ensures.fits (key_slot t) is.key)
