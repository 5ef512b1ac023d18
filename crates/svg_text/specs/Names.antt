-- The names of the elements and attributes that a chart has (SVG 1.1).
use Rattle.std.specs.Prelude.{ℕ, List, codes}
use Rattle.svg_text.specs.declared.element.Element.{Element}
use Rattle.svg_text.specs.declared.element.Element.TheVariants as elements
use Rattle.svg_text.specs.declared.attribute.Name.{Name}
use Rattle.svg_text.specs.declared.attribute.Name.TheVariants as names

abbrev pub element_name : Element → List ℕ
element_name elements.Title = codes "title"
element_name elements.Description = codes "desc"
element_name elements.Style = codes "style"
element_name elements.Definitions = codes "defs"
element_name elements.Marker = codes "marker"
element_name elements.Path = codes "path"
element_name elements.Group = codes "g"
element_name elements.Line = codes "line"
element_name elements.Rectangle = codes "rect"
element_name elements.Text = codes "text"

abbrev pub attribute_name : Name → List ℕ
attribute_name names.Namespace = codes "xmlns"
attribute_name names.Version = codes "version"
attribute_name names.Width = codes "width"
attribute_name names.Height = codes "height"
attribute_name names.ViewBox = codes "viewBox"
attribute_name names.Identity = codes "id"
attribute_name names.Class = codes "class"
attribute_name names.X = codes "x"
attribute_name names.Y = codes "y"
attribute_name names.X1 = codes "x1"
attribute_name names.Y1 = codes "y1"
attribute_name names.X2 = codes "x2"
attribute_name names.Y2 = codes "y2"
attribute_name names.Data = codes "d"
attribute_name names.RefX = codes "refX"
attribute_name names.RefY = codes "refY"
attribute_name names.MarkerWidth = codes "markerWidth"
attribute_name names.MarkerHeight = codes "markerHeight"
attribute_name names.Orient = codes "orient"
