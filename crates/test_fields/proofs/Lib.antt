mod FirstLine
