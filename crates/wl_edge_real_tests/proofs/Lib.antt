mod OpenLinks
