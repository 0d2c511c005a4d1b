use Rattle.body_cutter.proofs.ChildPieces.{children_are_pieces}
use Rattle.body_cutter.proofs.NamePieces.{attributes_are_named}
use Rattle.body_cutter.proofs.laws.parts_are_pieces.Goals as goal

pub returns-clause-attributes : goal.returns-clause-attributes
returns-clause-attributes c = λ text parts h. attributes_are_named text parts h

pub returns-clause-children : goal.returns-clause-children
returns-clause-children c = λ text parts h. children_are_pieces text parts h
