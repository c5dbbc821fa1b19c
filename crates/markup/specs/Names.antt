-- The names of elements and of their attributes: a closed list without scripts, links and styles.
use Rattle.std.specs.Prelude.{ℕ, List, codes, Bool, true, false}
use Rattle.markup.specs.declared.names.Attribute.{Attribute}
use Rattle.markup.specs.declared.names.Attribute.TheVariants as attribute
use Rattle.markup.specs.declared.names.Tag.{Tag}
use Rattle.markup.specs.declared.names.Tag.TheVariants as tag

-- of an element
abbrev pub tag_name : Tag → List ℕ
tag_name tag.Bold = codes "b"
tag_name tag.Code = codes "code"
tag_name tag.Details = codes "details"
tag_name tag.Division = codes "div"
tag_name tag.Group = codes "g"
tag_name tag.Heading = codes "h2"
tag_name tag.Item = codes "li"
tag_name tag.Line = codes "line"
tag_name tag.List = codes "ul"
tag_name tag.Paragraph = codes "p"
tag_name tag.Path = codes "path"
tag_name tag.Preformatted = codes "pre"
tag_name tag.Rect = codes "rect"
tag_name tag.Section = codes "section"
tag_name tag.Span = codes "span"
tag_name tag.Subheading = codes "h3"
tag_name tag.Summary = codes "summary"
tag_name tag.Svg = codes "svg"
tag_name tag.Table = codes "table"
tag_name tag.TableBody = codes "tbody"
tag_name tag.TableCell = codes "td"
tag_name tag.TableHead = codes "thead"
tag_name tag.TableHeading = codes "th"
tag_name tag.TableRow = codes "tr"
tag_name tag.Text = codes "text"
tag_name tag.MainHeading = codes "h1"

-- whether it is an element of SVG
abbrev pub is_svg : Tag → Bool
is_svg tag.Group = true
is_svg tag.Line = true
is_svg tag.Path = true
is_svg tag.Rect = true
is_svg tag.Svg = true
is_svg tag.Text = true
is_svg other = false

-- of an attribute
abbrev pub attribute_name : Attribute → List ℕ
attribute_name attribute.AriaHidden = codes "aria-hidden"
attribute_name attribute.AriaLabel = codes "aria-label"
attribute_name attribute.D = codes "d"
attribute_name attribute.Fill = codes "fill"
attribute_name attribute.FillOpacity = codes "fill-opacity"
attribute_name attribute.FontFamily = codes "font-family"
attribute_name attribute.FontSize = codes "font-size"
attribute_name attribute.Height = codes "height"
attribute_name attribute.PreserveAspectRatio = codes "preserveAspectRatio"
attribute_name attribute.Role = codes "role"
attribute_name attribute.Scope = codes "scope"
attribute_name attribute.ShapeRendering = codes "shape-rendering"
attribute_name attribute.Stroke = codes "stroke"
attribute_name attribute.StrokeDasharray = codes "stroke-dasharray"
attribute_name attribute.TextAnchor = codes "text-anchor"
attribute_name attribute.Title = codes "title"
attribute_name attribute.Transform = codes "transform"
attribute_name attribute.ViewBox = codes "viewBox"
attribute_name attribute.Width = codes "width"
attribute_name attribute.X = codes "x"
attribute_name attribute.X1 = codes "x1"
attribute_name attribute.X2 = codes "x2"
attribute_name attribute.Xmlns = codes "xmlns"
attribute_name attribute.Y = codes "y"
attribute_name attribute.Y1 = codes "y1"
attribute_name attribute.Y2 = codes "y2"
