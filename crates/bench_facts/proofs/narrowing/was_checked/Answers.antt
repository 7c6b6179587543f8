use Rattle.bench_facts.proofs.narrowing.was_checked.Goals as goal

pub returns-clause-equations : goal.returns-clause-equations
returns-clause-equations c =
    c.typed_functions_have_typed_equations.ensures c.args.f.now
    (c.fit_is_printable.ensures c.args.f.now c.function.ensures.checked.fit) c.function.ensures.checked.formed.typed

pub returns-clause-once : goal.returns-clause-once
returns-clause-once c = c.function.ensures.checked.once
