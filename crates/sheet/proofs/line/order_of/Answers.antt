-- `sheet::line::order_of` meets its contract: each part is that of its field, which is right.
use Rattle.sheet.specs.Line.{order_of}
use Rattle.sheet.specs.LineLaws.{tenant_spelt, size_spelt, price_right}
use Rattle.sheet.proofs.line.order_of.Goals as goal

pub value-requires-clause-s_value : goal.value-requires-clause-s_value
value-requires-clause-s_value c = rw c.field_at.ensures (tenant_spelt _ c.requires).0

pub value-requires-clause-s_len_bound : goal.value-requires-clause-s_len_bound
value-requires-clause-s_len_bound c = rw c.field_at.ensures (tenant_spelt _ c.requires).1

pub price_of-requires : goal.price_of-requires
price_of-requires c = rw (c.field_at-kind.ensures, c.field_at-3.ensures) (price_right _ c.requires)

pub value-requires-2-clause-s_value : goal.value-requires-2-clause-s_value
value-requires-2-clause-s_value c = rw c.field_at-4.ensures (size_spelt _ c.requires).0

pub value-requires-2-clause-s_len_bound : goal.value-requires-2-clause-s_len_bound
value-requires-2-clause-s_len_bound c = rw c.field_at-4.ensures (size_spelt _ c.requires).1

pub returns : goal.returns
unfolding order_of
returns c = cc
