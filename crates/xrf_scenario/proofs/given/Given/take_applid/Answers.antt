use Rattle.xrf_scenario.proofs.given.Given.take_applid.Goals as goal

pub returns-in-A : goal.returns-in-A
returns-in-A c = λ so. rw c.in-A.is (c.once.ensures so (λ s. record c.args.self.now { applid_a = s }))

pub returns-in-B : goal.returns-in-B
returns-in-B c = λ so. rw c.in-B.is (c.once-in-B.ensures so (λ s. record c.args.self.now { applid_b = s }))
