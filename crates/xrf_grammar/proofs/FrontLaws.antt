-- What the words of a form say stands in the first six of them.
use Rattle.std.proofs.Common.{◌≡◌, ℕ, List, refl}
use Rattle.xrf_grammar.specs.declared.form.ChoiceForm.{ChoiceForm}
use Rattle.xrf_grammar.specs.declared.form.ChoiceForm.TheVariants as by
use Rattle.xrf_grammar.specs.declared.form.Form.{Form}
use Rattle.xrf_grammar.specs.declared.form.Form.TheVariants as form
use Rattle.xrf_grammar.specs.declared.form.ItemForm.{ItemForm}
use Rattle.xrf_grammar.specs.declared.form.ItemForm.TheVariants as work
use Rattle.xrf_grammar.specs.Places.{front}
use Rattle.xrf_grammar.specs.Saying.{choice_said, once_said, work_said, plan_said, said}

choice_by_front : (f : ChoiceForm) (ws : List (List ℕ)) → choice_said f (front ws) ≡ choice_said f ws
choice_by_front by.Tick ws = refl
choice_by_front by.TickTimes ws = refl
choice_by_front by.Confirm ws = refl
choice_by_front by.StopTorn ws = refl
choice_by_front by.FailTorn ws = refl
choice_by_front _ ws = refl

once_by_front : (f : ChoiceForm) (ws : List (List ℕ)) → once_said f (front ws) ≡ once_said f ws
once_by_front by.Tick ws = refl
once_by_front by.TickTimes ws = refl
once_by_front by.StepTimes ws = refl
once_by_front by.Confirm ws = refl
once_by_front by.StopTorn ws = refl
once_by_front by.FailTorn ws = refl
once_by_front _ ws = refl

plan_by_front : (f : ChoiceForm) (ws : List (List ℕ)) → plan_said f (front ws) ≡ plan_said f ws
plan_by_front by.Tick ws = refl
plan_by_front by.TickTimes ws = refl
plan_by_front by.Confirm ws = refl
plan_by_front by.StopTorn ws = refl
plan_by_front by.FailTorn ws = refl
plan_by_front _ ws = refl

work_by_front : (f : ItemForm) (ws : List (List ℕ)) → work_said f (front ws) ≡ work_said f ws
work_by_front work.Begin ws = refl
work_by_front _ ws = refl

pub said_by_front : (f : Form) (ws : List (List ℕ)) → said f (front ws) ≡ said f ws
said_by_front (form.Choice f) ws = once_by_front f ws
said_by_front (form.Plan f) ws = plan_by_front f ws
said_by_front (form.Work f) ws = work_by_front f ws
said_by_front _ ws = refl
