-- Prims as the reader holds them.
use Rattle.hd_usda.specs.declared.grammar.prims.LayerBuilder as coded_builder
use Rattle.hd_usda.specs.declared.grammar.prims.PrimScope as coded_scope
use Rattle.hd_usda.specs.declared.grammar.prims.Named as coded_named
use Rattle.hd_usda.specs.declared.grammar.prims.PrimHeader as coded_header
use Rattle.hd_usda.specs.grammar.NameSet.{NameSet}
use Rattle.hd_usda.specs.inner.PropertyViews.{properties_view}
use Rattle.hd_usda.specs.grammar.Prims.{LayerBuilder, PrimScope, Named, PrimHeader}

abbrev pub builder_view : coded_builder.LayerBuilder → LayerBuilder
builder_view f = record { prims = f.prims.entries; count = f.count }

abbrev pub scope_view : coded_scope.PrimScope → coded_builder.LayerBuilder → PrimScope
scope_view s f = record { names = s.names; body = properties_view s.body; builder = builder_view f }

abbrev pub named_view : coded_named.Named → NameSet → Named
named_view n names = record { name = n.name.now; names = names; count = n.count }

abbrev pub prim_header_view : coded_header.PrimHeader → NameSet → PrimHeader
prim_header_view h names = record { kind = h.kind.now; named = named_view h.named names }
