use Rattle.vfa_check.proofs.RowBits.{add_name}
use Rattle.vfa_check.proofs.name_rows.NameRow.add.Goals as goal

pub returns-clause-added : goal.returns-clause-added
returns-clause-added c = λ w.
    add_name c.args.self.now.words.items c.args.self.now.names c.args.v.0 w _ c.requires.name c.requires.row.words c.index_mut.ensures.value
